use Rattle.bay.proofs.FillSteps.{Improving}
use Rattle.bay.proofs.elimination.improve.Given as goal

abbrev pub invariant-loop-t : goal.invariant-loop-t
invariant-loop-t g l = Improving g.C.Cost l.n l.s l.via.at l.via.low l.t l.via.marks l.held l.initial.cells l.cells
