-- The best of the formats so far.
use Rattle.bay.specs.LeastTables.{cards_between}
use Rattle.bay.specs.SplitTables.{BestBelow}
use Rattle.bay.proofs.splits.LeastCosts.cheapest.Given as goal

abbrev pub invariant-loop-at : goal.invariant-loop-at
invariant-loop-at g l = BestBelow g.R.Cost.Cost (cards_between l.self) l.branches l.at l.best
