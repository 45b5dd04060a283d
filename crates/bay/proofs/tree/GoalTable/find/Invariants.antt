use Rattle.std.proofs.Common.{ℕ, ◌-◌, ◌<◌, get_or}
use Rattle.bay.specs.Tracing.{Searched, Scanned, Wider}
use Rattle.bay.specs.GoalTables.{cards_of, cost_of}
use Rattle.bay.proofs.tree.GoalTable.find.Given as goal

abbrev pub invariant-loop-place : goal.invariant-loop-place
invariant-loop-place g l =
    let kind = g.R.Cost.Cost in
    Searched kind.algebra l.self.n (cards_of l.self) (cost_of l.self) l.self.goal l.ticks.sheet.now l.search ×
    Wider l.initial.search.marks l.search.marks l.initial.search.formats l.search.formats ×
    ((k : ℕ) → k < l.place → Scanned kind.algebra l.self.n (cards_of l.self) (cost_of l.self) l.self.goal l.search.marks (get_or l.search.formats k 0) l.self.n)

abbrev pub decreases-loop-place : goal.decreases-loop-place
decreases-loop-place g l = l.self.n - l.place
