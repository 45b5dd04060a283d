use Rattle.bay.specs.Legs.{booked}
use Rattle.bay.proofs.LegSteps.{OnlyStarted, Started}
use Rattle.bay.proofs.writing.RouteWriter.starts_to.Given as goal

abbrev pub invariant-loop-leg : goal.invariant-loop-leg
invariant-loop-leg g l = Started (booked l.self.legs.now) l.goal l.leg-index l.starts × OnlyStarted (booked l.self.legs.now) l.goal l.leg-index l.starts
