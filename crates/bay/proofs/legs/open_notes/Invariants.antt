-- The notes before here are open.
use Rattle.std.proofs.Common.{◌≡◌, ◌++◌, map, take, drop}
use Rattle.bay.specs.Leg.{noted}
use Rattle.bay.specs.declared.legs.Note.TheVariants.{Open}
use Rattle.bay.proofs.legs.open_notes.Given as goal

abbrev pub invariant-loop-leg : goal.invariant-loop-leg
invariant-loop-leg l = l.leg-items ≡ map (noted Open) (take l.leg-index l.initial.leg-items) ++ drop l.leg-index l.initial.leg-items
