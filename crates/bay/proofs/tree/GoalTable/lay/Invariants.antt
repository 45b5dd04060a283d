use Rattle.std.proofs.Common.{◌≡◌}
use Rattle.bay.proofs.Searches.{Laying}
use Rattle.bay.specs.GoalTables.{cards_of, cost_of}
use Rattle.bay.proofs.tree.GoalTable.lay.Given as goal

abbrev pub invariant-loop-place : goal.invariant-loop-place
invariant-loop-place g l =
    let kind = g.R.Cost.Cost in
    Laying kind.algebra l.self.n (cards_of l.self) (cost_of l.self) l.self.goal l.initial.ticks.sheet.now l.search l.place l.to l.ticks.sheet.now l.next ×
    (l.ticks.sheet.ghost_name ≡ l.initial.ticks.sheet.ghost_name)

abbrev pub decreases-loop-place : goal.decreases-loop-place
decreases-loop-place g l = l.place
