use Rattle.std.proofs.Common.{◌*◌, ◌≤◌}
use Rattle.costs.specs.Algebra.{reach}
use Rattle.bay.specs.Buffers.{Beyond}
use Rattle.bay.specs.Cells.{Roomy, cards_in, tabled}
use Rattle.walks.specs.Levels.{NoLoopBelow}
use Rattle.bay.proofs.Counts.{CountTo}
use Rattle.bay.proofs.Levels.{FirstTo}
use Rattle.bay.proofs.elimination.first_stage.Given as goal

abbrev pub invariant-loop-h : goal.invariant-loop-h
invariant-loop-h g l =
    let K = g.C.Cost in
    let now = tabled l.cells l.there in
    let card = cards_in K l.n (tabled l.initial.cells l.initial.there) in
    Beyond (l.n * l.n) l.initial.cells l.cells × Roomy K l.n now × NoLoopBelow K.algebra card l.h × FirstTo K l.n card now l.h × CountTo K.algebra card l.h l.rows × (l.rows ≤ reach * l.h)
