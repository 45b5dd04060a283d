-- Worked forks: what every fork over given cards is answered, whatever the memory holds. Where several chains cost least, a row may have
-- any of them. Delays are in half lines.
use Rattle.std.specs.Prelude.{◌≡◌, ℕ, List, [], ◌∷◌, map, ℤ, pos, None, Option, Ok, Err, Result, Contains, slice_index_or}
use Rattle.costs.specs.declared.Cost.{Ghosts as Kind}
use Rattle.costs.specs.Depth.{Bits, bits}
use Rattle.costs.specs.Kinds.{delays, depths}
use Rattle.registers.specs.Fault.{first_cause}
use Rattle.registers.specs.Meaning.{Meaning, IsSize}
use Rattle.bay.specs.Buffers.{Buffers}
use Rattle.bay.specs.Sheet.{row_at, row_of}
use Rattle.bay.specs.Splits.{ForkAnswer, fork_causes}
use Rattle.bay.specs.declared.fault.BayFault.{BayFault}
use Rattle.bay.specs.declared.fault.BayFault.TheVariants.{Loop, NoSplit}
use Rattle.worked.specs.Routes.{Stand}
use Rattle.worked.specs.Walks.{cards_of, free_pair, gain_elsewhere, open_house, barred_house, deeper_way}

-- two cards of five half lines from 0, and a way by 3 on which four of them serve both
abbrev pub crossroads : List (ℕ × ℕ × ℤ)
crossroads = (0, 1, pos 5) ∷ (0, 2, pos 5) ∷ (0, 3, pos 4) ∷ (3, 1, pos 2) ∷ (3, 2, pos 2) ∷ []

-- and another by 4, at the same costs
abbrev pub two_crossroads : List (ℕ × ℕ × ℤ)
two_crossroads = (0, 4, pos 4) ∷ (4, 1, pos 2) ∷ (4, 2, pos 2) ∷ crossroads

-- depths: a card from 1 to 2, and a way round by 0 that keeps as many bits
abbrev pub deep_detour : List (ℕ × ℕ × Bits)
deep_detour = (1, 0, bits 9) ∷ (0, 2, bits 8) ∷ (1, 2, bits 8) ∷ []

-- a fork, the format that its input is split at, the total, and the formats that each row may have
pub record ForkCase (V : Type 0) : Type 0 where
  pub input : ℕ
  pub first : ℕ
  pub second : ℕ
  pub split : ℕ
  pub total : V
  pub to_split : List (List ℕ)
  pub to_first : List (List ℕ)
  pub to_second : List (List ℕ)

module _ {C : Type 0} (K : Kind C) where
  -- A fork that was made over a register: what it was answered, by what it found and left. Its input and outputs are formats, and the
  -- table and the sheets are long enough.
  pub record ForkMade (m : Meaning K.algebra.Value) (input first second : ℕ) : Type 0 where
    pub before : Buffers C
    pub after : Buffers C
    pub answer : Result ℕ BayFault
    pub answered : ForkAnswer K m input first second before after answer
    pub roomy : first_cause (fork_causes K m input first second before) ≡ None

  -- the fork is granted, and its split, total and rows are as the case says
  pub record SplitAs (c : ForkCase K.algebra.Value) (m : Meaning K.algebra.Value) (f : ForkMade m c.input c.first c.second) : Type 0 where
    pub answer : f.answer ≡ Ok c.split
    pub total : (d : C) → K.value (slice_index_or f.after.costs 0 d) ≡ c.total
    pub to_split : Contains (map row_of c.to_split) (row_at f.after.chains 0)
    pub to_first : Contains (map row_of c.to_first) (row_at f.after.chains 1)
    pub to_second : Contains (map row_of c.to_second) (row_at f.after.chains 2)

  module _ (card : ℕ → ℕ → Option K.algebra.Value) where
    -- some register has just these cards, and P holds of every such fork over such a register
    pub record EveryFork (input first second : ℕ) (P : (m : Meaning K.algebra.Value) → ForkMade m input first second → Type 0) : Type 0 where
      pub some : (m : Meaning K.algebra.Value) × IsSize m.size × Stand K card m
      pub each : (m : Meaning K.algebra.Value) → Stand K card m → (f : ForkMade m input first second) → P m f

    -- every such fork is granted as the case says
    abbrev pub AlwaysSplit : ForkCase K.algebra.Value → Type 0
    AlwaysSplit c = EveryFork c.input c.first c.second (SplitAs c)

    -- every such fork is refused so
    abbrev pub AlwaysRefusedFor : BayFault → ℕ → ℕ → ℕ → Type 0
    AlwaysRefusedFor fault input first second = EveryFork input first second (λ m f. f.answer ≡ Err fault)

pub record ForkCases : Type 0 where
  -- The house table: from 4 to 2 and 6 the input is the split, since what the chains share gives lines back, and so is best had twice.
  pub house_at_input : AlwaysSplit delays open_house (record {
    input = 4;
    first = 2;
    second = 6;
    split = 4;
    total = pos 2;
    to_split = (4 ∷ []) ∷ [];
    to_first = (4 ∷ 3 ∷ 0 ∷ 2 ∷ []) ∷ [];
    to_second = (4 ∷ 3 ∷ 0 ∷ 6 ∷ []) ∷ (4 ∷ 3 ∷ 5 ∷ 1 ∷ 6 ∷ []) ∷ [];
  })
  -- from 4 to 1 and 5 an output is the split
  pub house_at_output : AlwaysSplit delays open_house (record {
    input = 4;
    first = 1;
    second = 5;
    split = 5;
    total = pos 2;
    to_split = (4 ∷ 3 ∷ 5 ∷ []) ∷ [];
    to_first = (5 ∷ 1 ∷ []) ∷ [];
    to_second = (5 ∷ []) ∷ [];
  })
  -- the outputs are equal: the split is the output
  pub house_equal_outputs : AlwaysSplit delays open_house (record {
    input = 0;
    first = 2;
    second = 2;
    split = 2;
    total = pos 2;
    to_split = (0 ∷ 2 ∷ []) ∷ [];
    to_first = (2 ∷ []) ∷ [];
    to_second = (2 ∷ []) ∷ [];
  })
  -- the best split is on neither least chain: these are the two cards
  pub crossroads_split : AlwaysSplit delays (cards_of crossroads) (record {
    input = 0;
    first = 1;
    second = 2;
    split = 3;
    total = pos 8;
    to_split = (0 ∷ 3 ∷ []) ∷ [];
    to_first = (3 ∷ 1 ∷ []) ∷ [];
    to_second = (3 ∷ 2 ∷ []) ∷ [];
  })
  -- two splits tie: the lower is taken
  pub two_crossroads_split : AlwaysSplit delays (cards_of two_crossroads) (record {
    input = 0;
    first = 2;
    second = 1;
    split = 3;
    total = pos 8;
    to_split = (0 ∷ 3 ∷ []) ∷ [];
    to_first = (3 ∷ 2 ∷ []) ∷ [];
    to_second = (3 ∷ 1 ∷ []) ∷ [];
  })
  -- there and back at no cost, where the input is both outputs: the other format is lower, and costs no more
  pub free_pair_split : AlwaysSplit delays (cards_of free_pair) (record {
    input = 1;
    first = 1;
    second = 1;
    split = 0;
    total = pos 0;
    to_split = (1 ∷ 0 ∷ []) ∷ [];
    to_first = (0 ∷ 1 ∷ []) ∷ [];
    to_second = (0 ∷ 1 ∷ []) ∷ [];
  })
  -- depths: all three formats tie, and the lowest is taken, which is neither the input nor the output
  pub deep_detour_split : AlwaysSplit depths (cards_of deep_detour) (record {
    input = 1;
    first = 2;
    second = 2;
    split = 0;
    total = bits 8;
    to_split = (1 ∷ 0 ∷ []) ∷ [];
    to_first = (0 ∷ 2 ∷ []) ∷ [];
    to_second = (0 ∷ 2 ∷ []) ∷ [];
  })
  -- depths: the input and an output tie
  pub deeper_way_split : AlwaysSplit depths (cards_of deeper_way) (record {
    input = 0;
    first = 1;
    second = 2;
    split = 0;
    total = bits 8;
    to_split = (0 ∷ []) ∷ [];
    to_first = (0 ∷ 1 ∷ []) ∷ [];
    to_second = (0 ∷ 1 ∷ 2 ∷ []) ∷ [];
  })
  -- with the format 0 barred no walk leads from 4 to 2, whichever output it is
  pub barred_house_first : AlwaysRefusedFor delays barred_house NoSplit 4 2 6
  pub barred_house_second : AlwaysRefusedFor delays barred_house NoSplit 4 6 2
  -- a closed walk that undercuts the unit, at formats that the fork never meets, is told before an output that is not reached
  pub gain_elsewhere_refused : AlwaysRefusedFor delays (cards_of gain_elsewhere) Loop 0 1 1
