-- What a register holds, and what its calls answer and change.
use Rattle.std.specs.Prelude.{ℕ, ◌+◌, ◌-◌, ◌≤◌, Bool, cond, not, ◌&&◌, List, [], ◌∷◌, ◌++◌, is_some, Some, None, Option, ◌==◌, nat_lt}
use Rattle.std.specs.Option.{option_map}
use Rattle.costs.specs.declared.Cost.{Ghosts as Kind}
use Rattle.registers.specs.Fault.{code}
use Rattle.registers.specs.declared.fault.Code.{Code}
use Rattle.registers.specs.declared.fault.Layer.{Layer}
use Rattle.registers.specs.declared.fault.Layer.TheVariants.{Register}

-- a register has at least two formats
abbrev pub least_formats : ℕ
least_formats = 2

-- and at most so many
abbrev pub most_formats : ℕ
most_formats = 64

-- so many formats a register can have
abbrev pub IsSize : ℕ → Type 0
IsSize n = (least_formats ≤ n) × (n ≤ most_formats)

-- two different formats of n
abbrev pub possible : ℕ → ℕ → ℕ → Bool
possible n a b = nat_lt a n && (nat_lt b n && not (a == b))

-- why a layer refuses two ends, in order: one that is no format of n
abbrev pub end_causes : Layer → ℕ → ℕ → ℕ → List (Bool × Code)
end_causes l n a b = (not (nat_lt a n), code l 11 0) ∷ (not (nat_lt b n), code l 11 1) ∷ []

-- why no card can lead from a to b, in order: its ends, and that they are equal
abbrev pub pair_causes : ℕ → ℕ → ℕ → List (Bool × Code)
pair_causes n a b = end_causes Register n a b ++ ((a == b), code Register 12 1) ∷ []

-- why a card is refused before its register looks at what it holds, in order: its pair, and a cost that no card may have
abbrev pub entry_causes : ℕ → ℕ → ℕ → Bool → List (Bool × Code)
entry_causes n a b admitted = pair_causes n a b ++ (not admitted, code Register 13 2) ∷ []

pub record Meaning (V : Type 0) : Type 0 where
  -- how many formats there are: they are the numbers below
  pub size : ℕ
  -- the cost of the card that is held for a pair
  pub cards : ℕ → ℕ → Option V
  -- the pairs whose card nobody may change
  pub sealed : ℕ → ℕ → Bool
  -- how many new pairs still find a place
  pub free : ℕ

-- what is held, by what its costs mean
abbrev pub meant : {C : Type 0} (K : Kind C) → Meaning C → Meaning K.algebra.Value
meant K m = record { size = m.size; cards = λ a b. option_map K.value (m.cards a b); sealed = m.sealed; free = m.free }

module _ {V : Type 0} where
  -- only two different formats can have a card
  abbrev pub pair : Meaning V → ℕ → ℕ → Bool
  pair m a b = possible m.size a b

  -- the cost of the standing card from a to b
  abbrev pub standing : Meaning V → ℕ → ℕ → Option V
  standing m a b = cond (pair m a b) (m.cards a b) None

  -- the cards with o for the pair, and every other as it was
  abbrev pub put : (ℕ → ℕ → Option V) → ℕ → ℕ → Option V → ℕ → ℕ → Option V
  put cards a b o c d = cond (a == c && b == d) o (cards c d)

  -- enter sets the card; a new pair takes a free place, and a standing one none
  abbrev pub entered : Meaning V → ℕ → ℕ → V → Meaning V
  entered m a b x = record { size = m.size; cards = put m.cards a b (Some x); sealed = m.sealed; free = cond (is_some (standing m a b)) m.free (m.free - 1) }

  -- withdraw removes the card and frees its place
  abbrev pub withdrawn : Meaning V → ℕ → ℕ → Meaning V
  withdrawn m a b = record { size = m.size; cards = put m.cards a b None; sealed = m.sealed; free = m.free + 1 }

  -- why enter is refused, in order: its pair, a cost that no card may have, a sealed pair, no free place
  abbrev pub enter_causes : Meaning V → ℕ → ℕ → Bool → List (Bool × Code)
  enter_causes m a b admitted =
      entry_causes m.size a b admitted ++ (m.sealed a b, code Register 21 0) ∷ (not (is_some (standing m a b)) && (m.free == 0), code Register 23 0) ∷ []

  -- why withdraw is refused, in order: its pair, a sealed pair, no card
  abbrev pub withdraw_causes : Meaning V → ℕ → ℕ → List (Bool × Code)
  withdraw_causes m a b = pair_causes m.size a b ++ (m.sealed a b, code Register 21 0) ∷ (not (is_some (standing m a b)), code Register 22 0) ∷ []

-- the cost of the standing card from a to b, by what it means
abbrev pub stands : {C : Type 0} (K : Kind C) → Meaning C → ℕ → ℕ → Option K.algebra.Value
stands K m = standing (meant K m)
