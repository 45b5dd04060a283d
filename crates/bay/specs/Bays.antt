-- A bay, seen as a plain bay.
use Rattle.std.specs.Prelude.{List, map}
use Rattle.costs.specs.declared.Cost.{Ghosts as Kind}
use Rattle.registers.specs.Meaning.{meant}
use Rattle.registers.specs.declared.Register.{Ghosts as RegisterOf}
use Rattle.bay.specs.Legs.{booked}
use Rattle.bay.specs.Plain.{Plain, ends}
use Rattle.bay.specs.declared.bays.Bay.{Bay}
use Rattle.bay.specs.declared.legs.Leg.{Leg}

module _ {R C : Type 0} {H : RegisterOf R C} {K : Kind C} where
  -- the legs of a bay with their notes, by number
  abbrev pub legs : Bay R C H K → List Leg
  legs b = booked b.legs

  -- the plain bay that a bay comes down to: what its register means, and the ends of its legs
  abbrev pub plain : Bay R C H K → Plain K
  plain b = record { register = meant K (H.holds b.register); legs = map ends (legs b) }
