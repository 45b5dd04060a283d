use Rattle.std.proofs.Common.{◌≡◌, ℕ, ◌<◌, true, false, get_or}
use Rattle.bay.specs.Tracing.{LeadsToGoal, Covered}
use Rattle.bay.specs.GoalTables.{cards_of, cost_of}
use Rattle.bay.proofs.tree.GoalTable.lead_all.Given as goal

abbrev pub invariant-loop-start : goal.invariant-loop-start
invariant-loop-start g l =
    let kind = g.R.Cost.Cost in
    LeadsToGoal kind.algebra l.self.n (cards_of l.self) (cost_of l.self) l.self.goal l.ticks.sheet.now l.next ×
    ((v : ℕ) → v < l.start → get_or l.wanted v false ≡ true → Covered kind.algebra l.self.n (cards_of l.self) (cost_of l.self) l.self.goal l.ticks.sheet.now v) ×
    (l.ticks.sheet.ghost_name ≡ l.initial.ticks.sheet.ghost_name)
