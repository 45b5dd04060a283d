use Rattle.bay.proofs.Turned.{ColumnTo}
use Rattle.bay.proofs.substitution.column.Given as goal

abbrev pub invariant-loop-s : goal.invariant-loop-s
invariant-loop-s l = ColumnTo l.there l.t l.s l.rows
