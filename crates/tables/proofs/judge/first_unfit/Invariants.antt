use Rattle.std.proofs.Common.{ℕ, ◌<◌}
use Rattle.tables.specs.Tables.{SuitsAt}
use Rattle.tables.proofs.judge.first_unfit.Given as goal

abbrev pub invariant-loop-index : goal.invariant-loop-index
invariant-loop-index l = (i : ℕ) → i < l.index → SuitsAt l.numbers i
