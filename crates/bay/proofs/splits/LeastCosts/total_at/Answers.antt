-- Three least costs over the same cards, which lie so near that they combine exactly.
use Rattle.std.proofs.Common.{inl, inr}
use Rattle.walks.proofs.Cut.{least_is_near}
use Rattle.bay.specs.LeastTables.{cards_between}
use Rattle.bay.proofs.SplitSteps.{no_walk, total_exact, totals_some}
use Rattle.bay.proofs.splits.LeastCosts.total_at.Goals as goal

pub returns-in_err-stem : goal.returns-in_err-stem
returns-in_err-stem g c = rw c.from_residual.ensures (inl (no_walk g.R.Cost.Cost.algebra (cards_between c.args.self.now) _ _ c.in_err-stem.ensures))

pub returns-in_err-branch : goal.returns-in_err-branch
returns-in_err-branch g c = rw c.from_residual-in_err-branch.ensures (inr (inl (no_walk g.R.Cost.Cost.algebra (cards_between c.args.self.now) _ _ c.in_err-branch.ensures)))

pub returns-in_err-other : goal.returns-in_err-other
returns-in_err-other g c = rw c.from_residual-in_err-other.ensures (inr (inr (no_walk g.R.Cost.Cost.algebra (cards_between c.args.self.now) _ _ c.in_err-other.ensures)))

pub returns : goal.returns
returns g c =
    let K = g.R.Cost.Cost in
    let L = g.met.R.Cost.Cost.lawful in
    let t = c.args.self.now in
    let at = c.args.at in
    let b = c.args.branches in
    let all = c.requires.complete in
    let card = cards_between t in
    let x = K.value c.in_ok-stem.stem in
    let y = K.value c.in_ok-branch.branch in
    let z = K.value c.in_ok-other.other in
    let stem = c.in_ok-stem.ensures in
    let branch = c.in_ok-branch.ensures in
    let other = c.in_ok-other.ensures in
    totals_some L card b.input b.first b.second at x y z _ stem branch other
    (total_exact L t.n x y z _ _ all.few
    (least_is_near L t.n card all.sound all.calm b.input at x stem)
    (least_is_near L t.n card all.sound all.calm at b.first y branch)
    (least_is_near L t.n card all.sound all.calm at b.second z other) c.join.ensures c.join-2.ensures)
