-- One format more; at the end the best is that of all.
use Rattle.std.proofs.Common.{◌≡◌, subst, arith}
use Rattle.bay.specs.LeastTables.{cards_between}
use Rattle.bay.specs.SplitTables.{BestBelow}
use Rattle.bay.proofs.SplitSteps.{best_more}
use Rattle.bay.proofs.splits.LeastCosts.cheapest.Goals as goal

pub loop-at-preserved : goal.loop-at-preserved
loop-at-preserved g c =
    best_more g.R.Cost.Cost g.met.R.Cost.Cost.lawful (cards_between c.args.self.now) c.args.branches c.loop-at.at c.loop-at.best c.total_at-total.result _
    c.loop-at.invariant c.total_at-total.ensures c.better_split-best.ensures

pub returns : goal.returns
returns g c =
    let all : c.loop-at.at ≡ c.args.self.now.n = omega (arith, c.loop-at-test.false, c.loop-at.auto.at-end) in
    subst (λ k. BestBelow g.R.Cost.Cost (cards_between c.args.self.now) c.args.branches k c.loop-at.best) all c.loop-at.invariant
