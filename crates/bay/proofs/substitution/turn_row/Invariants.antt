use Rattle.bay.proofs.Turned.{RowTurned}
use Rattle.bay.proofs.substitution.turn_row.Given as goal

abbrev pub invariant-loop-t : goal.invariant-loop-t
invariant-loop-t g l = RowTurned g.C.Cost l.n l.s l.t l.initial.cells l.cells
