-- What a route's writer has been lent: the legs of a bay, and the two sheets.
use Rattle.std.specs.Prelude.{◌≡◌, ℕ, length, map, All, slice_index_or}
use Rattle.bay.specs.Leg.{no_leg}
use Rattle.bay.specs.Legs.{booked}
use Rattle.bay.specs.LegSlots.{Slots, slots}
use Rattle.bay.specs.Plain.{EndsBelow, ends}
use Rattle.bay.specs.declared.legs.Leg.{Leg}
use Rattle.bay.specs.declared.writing.RouteWriter.{RouteWriter}

module _ {C : Type 0} where
  -- what stands in them
  abbrev pub slots_of : RouteWriter C → Slots C
  slots_of w = slots (booked w.legs.now) w.costs.now w.chains.now

  -- leg k
  abbrev pub leg_of : RouteWriter C → ℕ → Leg
  leg_of w k = slice_index_or (booked w.legs.now) k no_leg

  -- how many legs there are
  abbrev pub number_of : RouteWriter C → ℕ
  number_of w = length (booked w.legs.now)

  -- each leg leads from one of n formats to one of them
  abbrev pub LegsBelow : ℕ → RouteWriter C → Type 0
  LegsBelow n w = All (EndsBelow n) (map ends (booked w.legs.now))

  -- it is the same memory
  abbrev pub SameMemory : RouteWriter C → RouteWriter C → Type 0
  SameMemory w w' =
      (w'.legs.ghost_name ≡ w.legs.ghost_name) × (w'.costs.ghost_name ≡ w.costs.ghost_name) ×
      (w'.chains.ghost_name ≡ w.chains.ghost_name)
