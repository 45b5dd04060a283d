-- Worked routes: what every route over given cards, for given legs, is answered, whatever the memory and the notes hold.
-- Where several chains cost least, a leg may have the row of any of them. Delays are in half lines.
use Rattle.std.specs.Prelude.{◌≡◌, ℕ, List, [], ◌∷◌, map, length, pos, Some, Option, Ok, Contains, slice_get, slice_index_or}
use Rattle.costs.specs.declared.Cost.{Ghosts as Kind}
use Rattle.costs.specs.Algebra.{Algebra}
use Rattle.costs.specs.Delay.{delay}
use Rattle.costs.specs.Depth.{bits}
use Rattle.costs.specs.Kinds.{delays, depths, boths}
use Rattle.registers.specs.Meaning.{Meaning, IsSize, standing}
use Rattle.bay.specs.Plain.{Plain, from_to}
use Rattle.bay.specs.Reversal.{RouteMade, Loops}
use Rattle.bay.specs.Sheet.{row_at, row_of}
use Rattle.bay.specs.declared.legs.Ends.{Ends}
use Rattle.worked.specs.Walks.{cards_of, back, gaining_ring, even_ring, free_pair, gain_elsewhere, open_house, barred_house, reversed_house, deeper_way, equal_delays, sooner_way, free_deep_pair}

-- a leg, what it costs, and the rows that it may have, each told by its formats
pub record LegCase (V : Type 0) : Type 0 where
  pub leg : Ends
  pub cost : V
  pub rows : List (List ℕ)

-- the leg from a to b costs x, by one of these chains
abbrev pub by_chains : {V : Type 0} → ℕ → ℕ → V → List (List ℕ) → LegCase V
by_chains a b x chains = record { leg = from_to a b; cost = x; rows = chains }

-- the leg from a to b has no chain: it costs the unit, and its row has no formats
abbrev pub chainless : (A : Algebra) → ℕ → ℕ → LegCase A.Value
chainless A a b = record { leg = from_to a b; cost = A.unit; rows = [] ∷ [] }

module _ {C : Type 0} {K : Kind C} {p : Plain K} (r : RouteMade p) where
  -- leg k is as the case says: its entry of the cost sheet means the cost, and its row of the chain sheet is one of the rows
  pub record LegAs (k : ℕ) (c : LegCase K.algebra.Value) : Type 0 where
    pub cost : (d : C) → K.value (slice_index_or r.after.costs k d) ≡ c.cost
    pub row : Contains (map row_of c.rows) (row_at r.after.chains k)

  -- the route is granted, and each leg is as its case says
  pub record GrantedAs (cases : List (LegCase K.algebra.Value)) : Type 0 where
    pub answer : r.answer ≡ Ok (length cases)
    pub legs : (k : ℕ) (c : LegCase K.algebra.Value) → slice_get cases k ≡ Some c → LegAs k c

module _ {C : Type 0} (K : Kind C) (card : ℕ → ℕ → Option K.algebra.Value) where
  -- just these cards stand
  abbrev pub Stand : Meaning K.algebra.Value → Type 0
  Stand m = (a b : ℕ) → standing m a b ≡ card a b

  -- some register has just these cards, and P holds of every route over such a register for these legs
  pub record EveryRoute (legs : List Ends) (P : (p : Plain K) → RouteMade p → Type 0) : Type 0 where
    pub some : (m : Meaning K.algebra.Value) × IsSize m.size × Stand m
    pub each : (p : Plain K) → Stand p.register → p.legs ≡ legs → (r : RouteMade p) → P p r

  -- every such route is refused for a loop
  abbrev pub AlwaysRefused : List Ends → Type 0
  AlwaysRefused legs = EveryRoute legs (λ p r. Loops r)

  -- every such route is granted as the cases of its legs say
  abbrev pub AlwaysGranted : List (LegCase K.algebra.Value) → Type 0
  AlwaysGranted cases = EveryRoute (map (λ c. c.leg) cases) (λ p r. GrantedAs r cases)

pub record RouteCases : Type 0 where
  -- 2, −4 and 1 round a ring: a closed walk undercuts the unit
  pub gaining_ring_refused : AlwaysRefused delays (cards_of gaining_ring) (from_to 0 1 ∷ [])
  -- 2, −4 and 2 round a ring: none does
  pub even_ring_granted : AlwaysGranted delays (cards_of even_ring) (
      by_chains 0 1 (pos 2) ((0 ∷ 1 ∷ []) ∷ []) ∷ [])
  -- there and back at no cost: two legs of one route cost the same, and the second one's chain goes on as the first one's
  pub free_pair_granted : AlwaysGranted delays (cards_of free_pair) (
      by_chains 0 2 (pos 5) ((0 ∷ 2 ∷ []) ∷ []) ∷
      by_chains 1 2 (pos 5) ((1 ∷ 0 ∷ 2 ∷ []) ∷ []) ∷ [])
  -- a closed walk that undercuts the unit, at formats that the leg never meets
  pub gain_elsewhere_refused : AlwaysRefused delays (cards_of gain_elsewhere) (from_to 0 1 ∷ [])
  -- the house table as it is: from 4 to 6 two chains tie
  pub open_house_granted : AlwaysGranted delays open_house (
      by_chains 4 2 (back 2) ((4 ∷ 3 ∷ 0 ∷ 2 ∷ []) ∷ []) ∷
      by_chains 4 6 (pos 4) ((4 ∷ 3 ∷ 0 ∷ 6 ∷ []) ∷ (4 ∷ 3 ∷ 5 ∷ 1 ∷ 6 ∷ []) ∷ []) ∷ [])
  -- with the format 0 barred
  pub barred_house_granted : AlwaysGranted delays barred_house (
      chainless delay 4 2 ∷
      by_chains 4 6 (pos 4) ((4 ∷ 3 ∷ 5 ∷ 1 ∷ 6 ∷ []) ∷ []) ∷ [])
  -- with every card turned round
  pub reversed_house_granted : AlwaysGranted delays reversed_house (
      by_chains 2 4 (back 2) ((2 ∷ 0 ∷ 3 ∷ 4 ∷ []) ∷ []) ∷ [])
  -- Legs whose ends are equal, at formats where a loop of cost 0 begins and where no card does, beside one that ends in the same
  -- format: the chain is the format alone
  pub same_ends_granted : AlwaysGranted delays (cards_of free_pair) (
      by_chains 0 0 (pos 0) ((0 ∷ []) ∷ []) ∷
      by_chains 1 0 (pos 0) ((1 ∷ 0 ∷ []) ∷ []) ∷
      by_chains 2 2 (pos 0) ((2 ∷ []) ∷ []) ∷ [])
  -- of depths such a leg keeps all the bits
  pub same_ends_deep_granted : AlwaysGranted depths (cards_of deeper_way) (
      by_chains 2 2 (bits 255) ((2 ∷ []) ∷ []) ∷
      by_chains 0 2 (bits 8) ((0 ∷ 1 ∷ 2 ∷ []) ∷ []) ∷ [])
  -- where a closed walk undercuts the unit, such a leg alone is refused too
  pub same_ends_refused : AlwaysRefused delays (cards_of gain_elsewhere) (from_to 0 0 ∷ [])
  -- of depths the most bits are the best
  pub deeper_way_granted : AlwaysGranted depths (cards_of deeper_way) (
      by_chains 0 2 (bits 8) ((0 ∷ 1 ∷ 2 ∷ []) ∷ []) ∷ [])
  -- of equal delays the one that keeps more bits; from a format to itself no delay and all the bits
  pub equal_delays_granted : AlwaysGranted boths (cards_of equal_delays) (
      by_chains 0 3 (pos 6, bits 10) ((0 ∷ 2 ∷ 3 ∷ []) ∷ []) ∷
      by_chains 1 1 (pos 0, bits 255) ((1 ∷ []) ∷ []) ∷ [])
  -- a smaller delay comes before any number of bits
  pub sooner_way_granted : AlwaysGranted boths (cards_of sooner_way) (
      by_chains 0 3 (pos 4, bits 1) ((0 ∷ 3 ∷ []) ∷ []) ∷ [])
  -- Delays tie by a loop of no delay, there and back: the chain from 0 goes by way of 1 for the bits, and goes on as the one from 1 does,
  -- which does not go back
  pub free_deep_pair_granted : AlwaysGranted boths (cards_of free_deep_pair) (
      by_chains 0 2 (pos 5, bits 10) ((0 ∷ 1 ∷ 2 ∷ []) ∷ []) ∷
      by_chains 1 2 (pos 5, bits 10) ((1 ∷ 2 ∷ []) ∷ []) ∷ [])
