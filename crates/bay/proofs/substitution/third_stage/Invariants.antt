use Rattle.std.proofs.Common.{◌≡◌, ℕ, ◌<◌, ◌*◌, true, Option}
use Rattle.walks.specs.Levels.{NoLoopBelow}
use Rattle.walks.specs.Theorems.{Sound}
use Rattle.bay.specs.Buffers.{Beyond}
use Rattle.bay.specs.Cells.{Roomy, tabled}
use Rattle.bay.specs.Eliminated.{ThirdFrom}
use Rattle.bay.specs.FormatSets.{holds}
use Rattle.bay.specs.declared.sets.FormatSet.{FormatSet}
use Rattle.bay.proofs.GoalSteps.{ThirdAt}
use Rattle.bay.proofs.substitution.third_stage.Given as goal

abbrev pub invariant-loop-j : goal.invariant-loop-j
invariant-loop-j g l =
    let K = g.C.Cost in
    let before = tabled l.initial.cells l.initial.there in
    let now = tabled l.cells l.there in
    Beyond (l.n * l.n) l.initial.cells l.cells × Roomy K l.n now ×
    ((card : ℕ → ℕ → Option K.algebra.Value) (sound : Sound K.algebra l.n card) (calm : NoLoopBelow K.algebra card l.n) (goals : FormatSet) (inside : l.goal < l.n) (is_goal : holds goals l.goal ≡ true)
    (F : ThirdFrom K l.n card before goals l.goal) → ThirdAt K g.met.C.Cost.lawful l.n card sound calm goals l.goal inside is_goal before F now l.j)
