use Rattle.std.proofs.Common.{◌≡◌, ℕ, ◌*◌, get_or, Option}
use Rattle.walks.specs.Levels.{NoLoopBelow}
use Rattle.walks.specs.Theorems.{Sound}
use Rattle.bay.specs.Buffers.{Beyond}
use Rattle.bay.specs.Cells.{Roomy, tabled}
use Rattle.bay.specs.Eliminated.{SecondTo}
use Rattle.bay.specs.FormatSets.{no_formats}
use Rattle.bay.proofs.GoalSteps.{level}
use Rattle.bay.proofs.substitution.pass_goals.Given as goal

abbrev pub invariant-loop-goal : goal.invariant-loop-goal
invariant-loop-goal g l =
    let K = g.C.Cost in
    let before = tabled l.initial.cells l.initial.there in
    let now = tabled l.cells l.there in
    Beyond (l.n * l.n) l.initial.cells l.cells × Roomy K l.n now × (get_or l.there l.j no_formats ≡ get_or l.initial.there l.j no_formats) ×
    ((card : ℕ → ℕ → Option K.algebra.Value) (sound : Sound K.algebra l.n card) (calm : NoLoopBelow K.algebra card l.n) → SecondTo K l.n card before l.goals (λ s. l.j) →
    SecondTo K l.n card now l.goals (level K g.met.C.Cost.lawful l.n card sound calm l.j l.goal))
