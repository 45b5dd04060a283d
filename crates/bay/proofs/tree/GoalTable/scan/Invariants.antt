use Rattle.bay.proofs.Searches.{Turn}
use Rattle.bay.specs.GoalTables.{cards_of, cost_of}
use Rattle.bay.proofs.tree.GoalTable.scan.Given as goal

abbrev pub invariant-loop-to : goal.invariant-loop-to
invariant-loop-to g l =
    let kind = g.R.Cost.Cost in
    Turn kind.algebra l.self.n (cards_of l.self) (cost_of l.self) l.self.goal l.ticks.sheet.now l.initial.search l.from l.left l.search

abbrev pub decreases-loop-to : goal.decreases-loop-to
decreases-loop-to g l = l.left.bits
