use Rattle.bay.proofs.FillSteps.{Filling}
use Rattle.bay.proofs.elimination.fill.Given as goal

abbrev pub invariant-loop-t : goal.invariant-loop-t
invariant-loop-t g l = Filling g.C.Cost l.n l.s l.at l.initial.left l.held l.initial.cells l.cells l.left

abbrev pub decreases-loop-t : goal.decreases-loop-t
decreases-loop-t g l = l.left.bits
