use Rattle.std.proofs.Common.{ℕ, ◌*◌, Option}
use Rattle.walks.specs.Levels.{NoLoopBelow}
use Rattle.walks.specs.Theorems.{Sound}
use Rattle.bay.specs.Buffers.{Beyond}
use Rattle.bay.specs.Cells.{Roomy, tabled}
use Rattle.bay.specs.Eliminated.{SecondTo, TurnedDone}
use Rattle.bay.proofs.substitution.second_stage.Given as goal

abbrev pub invariant-loop-j : goal.invariant-loop-j
invariant-loop-j g l =
    let K = g.C.Cost in
    let before = tabled l.initial.cells l.initial.there in
    let now = tabled l.cells l.there in
    Beyond (l.n * l.n) l.initial.cells l.cells × Roomy K l.n now ×
    ((card : ℕ → ℕ → Option K.algebra.Value) → Sound K.algebra l.n card → NoLoopBelow K.algebra card l.n → TurnedDone K l.n card before → SecondTo K l.n card now l.goals (λ s. l.j))
