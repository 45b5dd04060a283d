-- Where no look found a closed walk, none undercuts the unit.
use Rattle.std.proofs.Common.{ℕ, Option}
use Rattle.costs.specs.declared.Cost.{Ghosts as Kind}
use Rattle.costs.specs.Algebra.{Lawful}
use Rattle.walks.specs.Theorems.{Sound}
use Rattle.bay.specs.Cells.{Table}
use Rattle.bay.specs.Eliminated.{FirstFound}
use Rattle.bay.specs.Solved.{Solved}
use Rattle.bay.specs.declared.elimination.Found.{Found}
use Rattle.bay.specs.declared.elimination.Found.TheVariants.{LoopAt, NoLoop}
use Rattle.walks.proofs.Loops.{no_hidden_loop}
use Rattle.bay.proofs.survey.settle.Goals as goal

solved_by : {C : Type 0} (K : Kind C) → Lawful K.algebra → (n : ℕ) (card : ℕ → ℕ → Option K.algebra.Value) → Sound K.algebra n card → (t : Table C) (r : Found) → FirstFound K n card t r → Solved K n card t r
solved_by K L n card sound t (LoopAt h) found = found
solved_by K L n card sound t (NoLoop rows) found = (record { calm = no_hidden_loop L n card sound found.0; low = found.1 }, found.2)

pub returns : goal.returns
returns g c = record {
  beyond = c.first_stage.ensures.beyond;
  roomy = c.first_stage.ensures.roomy;
  solved = solved_by g.C.Cost g.met.C.Cost.lawful c.args.n _ c.requires.laid.sound _ _ c.first_stage.ensures.found;
}
