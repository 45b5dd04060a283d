-- One cell after the other.
use Rattle.std.proofs.Common.{sym, subst}
use Rattle.costs.specs.Algebra.{IsJoin}
use Rattle.bay.proofs.FillSteps.{Filling, filling_start, filling_more}
use Rattle.bay.proofs.elimination.fill.Goals as goal

pub loop-t-init : goal.loop-t-init
loop-t-init g c = filling_start g.C.Cost c.args.n c.args.s c.args.at c.args.fresh c.args.held c.args.cells.now

pub loop-t-preserved : goal.loop-t-preserved
loop-t-preserved g c =
    let K = g.C.Cost in
    let n = c.args.n in
    let a = K.value c.args.held in
    let y = K.value c.join-cost.result in
    subst (λ cells. Filling K n c.args.s c.args.at c.args.fresh c.args.held c.args.cells.now cells c.without-left.result) (sym c.set_cost.ensures)
    (filling_more K n c.args.s c.args.at c.args.fresh c.args.held c.args.cells.now c.loop-t.cells c.loop-t.left c.loop-t.invariant c.requires.room c.requires.few c.requires.inside c.requires.fresh
    c.in-Some.t c.in-Some.ensures.some.0 c.in-Some.ensures.some.1 _ (subst (λ b. IsJoin K.algebra a b y) c.cost_in.ensures c.join-cost.ensures)
    c.without-left.result c.without-left.ensures.gone c.without-left.ensures.others)
