use Rattle.bay.proofs.Sheets.{Reading}
use Rattle.bay.proofs.rows.follow.Given as goal

abbrev pub invariant-loop-i : goal.invariant-loop-i
invariant-loop-i l = Reading l.next l.goal l.from l.initial.places l.here l.i l.places
