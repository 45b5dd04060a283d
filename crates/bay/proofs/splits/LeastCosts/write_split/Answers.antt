-- The three chains that are written are those of the best split.
use Rattle.std.proofs.Common.{sym, refl, subst, arith}
use Rattle.std.proofs.lemmas.List.{get_or-set_same}
use Rattle.bay.specs.LeastTables.{cards_between}
use Rattle.bay.specs.Sheet.{row_at}
use Rattle.bay.specs.Splits.{HasCheapestSplit}
use Rattle.bay.proofs.Passes.{beyond_write}
use Rattle.bay.proofs.SplitSteps.{best_cheapest, none_best, rows_beyond, rows_split}
use Rattle.bay.proofs.splits.LeastCosts.write_split.Goals as goal

pub returns-in_err-split : goal.returns-in_err-split
returns-in_err-split g c =
    let K = g.R.Cost.Cost in
    let t = c.args.self.now in
    rw c.from_residual.ensures
    (record { cut_off = none_best K g.met.R.Cost.Cost.lawful (cards_between t) c.args.branches t.n c.requires.complete.sound c.requires.inside.0 c.in_err-split.ensures; costs = refl; chains = refl })

pub write_least-requires-2-clause-reached : goal.write_least-requires-2-clause-reached
write_least-requires-2-clause-reached g c = let total = c.in_ok-split.ensures.1 in (total.1, total.4)

pub write_least-requires-3-clause-reached : goal.write_least-requires-3-clause-reached
write_least-requires-3-clause-reached g c = let total = c.in_ok-split.ensures.1 in (total.2, total.5)

pub returns : goal.returns
returns g c =
    let K = g.R.Cost.Cost in
    let L = g.met.R.Cost.Cost.lawful in
    let t = c.args.self.now in
    let b = c.args.branches in
    let split = c.in_ok-split.split in
    let card = cards_between t in
    let best = c.in_ok-split.ensures in
    let cheap = best_cheapest K L card b t.n c.requires.complete.sound c.requires.inside.0 split best in
    let before = c.args.chains.now in
    let p = c.write_least.ensures.put in
    let q = c.write_least-2.ensures.put in
    let r = c.write_least-3.ensures.put in
    let rows = rows_split L card b split.at (K.value split.total) cheap before _ _ _ c.requires.rows p q r in (
      best.0,
      record {
        found = λ d. subst (λ x. HasCheapestSplit K.algebra card b.input b.first b.second split.at (row_at c.write_least-3.new.chains) (K.value x)) (sym (get_or-set_same c.args.costs.now 0 split.total d c.requires.entry)) rows;
        costs = beyond_write 1 c.args.costs.now 0 split.total (omega arith);
        chains = rows_beyond L card b split.at (K.value split.total) cheap before _ _ _ c.requires.rows p q r;
      },
    )
