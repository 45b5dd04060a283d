-- Two bays over the same cards, where the second one has every card turned round: what a route of the one says of a route of
-- the other.
use Rattle.std.specs.Prelude.{◌≡◌, ℕ, ◌<◌, List, [], length, None, Err, Result, slice_index_or}
use Rattle.costs.specs.declared.Cost.{Ghosts as Kind}
use Rattle.registers.specs.Fault.{first_cause}
use Rattle.registers.specs.Meaning.{Meaning, meant, standing}
use Rattle.registers.specs.Reversed.{reversed}
use Rattle.bay.specs.Buffers.{Buffers}
use Rattle.bay.specs.Faults.{refused}
use Rattle.bay.specs.Plain.{Plain}
use Rattle.bay.specs.Routes.{no_ends}
use Rattle.bay.specs.Routing.{RouteAnswer, route_causes}
use Rattle.bay.specs.Sheet.{row_at, row_of}
use Rattle.bay.specs.declared.fault.BayFault.{BayFault}
use Rattle.bay.specs.declared.fault.BayFault.TheVariants.{Loop}
use Rattle.bay.specs.declared.legs.Ends.{Ends}
use Rattle.bay.specs.declared.legs.Leg.{Leg}

-- the second leg leads from where the first one ends to where it begins
abbrev pub Opposite : Ends → Ends → Type 0
Opposite leg other = (other.from ≡ leg.to) × (other.to ≡ leg.from)

-- both propositions hold, or neither
abbrev pub Alike : Type 0 → Type 0 → Type 0
Alike P Q = (P → Q) × (Q → P)

module _ {C : Type 0} {K : Kind C} where
  -- the standing cards of the second bay are those of the first, each turned round
  abbrev pub Reversal : Plain K → Plain K → Type 0
  Reversal p q = (a b : ℕ) → standing q.register a b ≡ standing (reversed p.register) a b

  -- A route that was made: the plain bay, and what the route was answered, by what it found and left. Its bay has legs, and
  -- the table and the sheets are long enough.
  pub record RouteMade (p : Plain K) : Type 0 where
    pub legs : List Leg
    pub noted : List Leg
    pub before : Buffers C
    pub after : Buffers C
    pub answer : Result ℕ BayFault
    pub answered : RouteAnswer p legs noted before after answer
    pub roomy : first_cause (route_causes p before) ≡ None

  -- it is refused for a loop
  abbrev pub Loops : {p : Plain K} → RouteMade p → Type 0
  Loops r = r.answer ≡ Err Loop

  -- leg k has no chain
  abbrev pub Chainless : {p : Plain K} → RouteMade p → ℕ → Type 0
  Chainless r k = row_at r.after.chains k ≡ row_of []

  -- Both routes are refused for a loop, or neither is. Where they are granted, a leg and one that leads the other way have a
  -- chain both or neither, and cost the same.
  pub record Mirrored {p q : Plain K} (one : RouteMade p) (other : RouteMade q) : Type 0 where
    pub loops : Alike (Loops one) (Loops other)
    pub legs : refused one.answer ≡ None → (d : C) (j k : ℕ) → j < length p.legs → k < length q.legs →
        Opposite (slice_index_or p.legs j no_ends) (slice_index_or q.legs k no_ends) →
        Alike (Chainless one j) (Chainless other k) ×
        (K.value (slice_index_or one.after.costs j d) ≡ K.value (slice_index_or other.after.costs k d))

module _ {C : Type 0} (K : Kind C) where
  -- a bay over a reversed register is the reversal of one over the register below
  abbrev pub ReversedIsReversal : Type 0
  ReversedIsReversal = (m : Meaning C) (legs others : List Ends) →
      let p : Plain K = record { register = meant K m; legs = legs } in
      let q : Plain K = record { register = meant K (reversed m); legs = others } in
      Reversal p q

  -- Whatever the register and the legs: a route from the output side finds a loop, chains and costs as one from the input side
  -- does.
  abbrev pub FromOutputs : Type 0
  FromOutputs = (p q : Plain K) → Reversal p q → (one : RouteMade p) (other : RouteMade q) → Mirrored one other
