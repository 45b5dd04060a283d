use Rattle.std.proofs.Common.{◌≡◌, ℕ, ◌<◌, ◌*◌, true, Option}
use Rattle.walks.specs.Levels.{NoLoopBelow}
use Rattle.walks.specs.Theorems.{Sound}
use Rattle.bay.specs.Buffers.{Beyond}
use Rattle.bay.specs.Cells.{Roomy, tabled}
use Rattle.bay.specs.Eliminated.{ThirdDone, ThirdFrom}
use Rattle.bay.specs.FormatSets.{holds}
use Rattle.bay.proofs.substitution.solve_to.Given as goal

abbrev pub invariant-loop-goal : goal.invariant-loop-goal
invariant-loop-goal g l =
    let K = g.C.Cost in
    let before = tabled l.initial.cells l.initial.there in
    let now = tabled l.cells l.there in
    Beyond (l.n * l.n) l.initial.cells l.cells × Roomy K l.n now ×
    ((card : ℕ → ℕ → Option K.algebra.Value) → Sound K.algebra l.n card → NoLoopBelow K.algebra card l.n → ThirdFrom K l.n card before l.goals 0 →
    ThirdFrom K l.n card now l.goals l.goal × ((t : ℕ) → t < l.goal → holds l.goals t ≡ true → ThirdDone K l.n card now t))
