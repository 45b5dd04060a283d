-- A place that passes is the table, and any other makes one without a card.
use Rattle.std.proofs.Common.{sym, refl, ◌∙◌, ap, inl, inr}
use Rattle.bay.proofs.Granted.{none≢some}
use Rattle.tables.specs.Faults.{table_refusal}
use Rattle.tables.proofs.Verdicts.{empty_calm, granted_passes, passes_granted}
use Rattle.tables.proofs.loaded.LoadedTable.new.Goals.{in-Ok, in-Err}
use Rattle.tables.proofs.loaded.LoadedTable.new.Goals as goal

pub invariant_of-result : goal.invariant_of-result
invariant_of-result c = elim c.match-judge.branch [
  | in-Ok w ↦ rw w.result-is (record { no_loop = (granted_passes _ _ _ c.judge.ensures (ap table_refusal w.in-Ok.is)).no_loop })
  | in-Err w ↦ rw w.result-is (record { no_loop = empty_calm })
]

pub returns : goal.returns
returns c = elim c.match-judge.branch [
  | in-Ok w ↦ rw w.result-is (inl (granted_passes _ _ _ c.judge.ensures (ap table_refusal w.in-Ok.is), refl))
  | in-Err w ↦ rw w.result-is (inr ((λ p. none≢some (sym (passes_granted _ _ _ refl c.judge.ensures p) ∙ ap table_refusal w.in-Err.is)), refl))
]
