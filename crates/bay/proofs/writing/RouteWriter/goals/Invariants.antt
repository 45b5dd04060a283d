use Rattle.bay.specs.Legs.{booked}
use Rattle.bay.proofs.LegSteps.{Ended}
use Rattle.bay.proofs.writing.RouteWriter.goals.Given as goal

abbrev pub invariant-loop-leg : goal.invariant-loop-leg
invariant-loop-leg g l = Ended (booked l.self.legs.now) l.leg-index l.goals
