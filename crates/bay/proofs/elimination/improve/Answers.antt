-- One cell after the other, by its mark and by what undercuts.
use Rattle.std.proofs.Common.{◌+◌, ◌<◌, sym, subst, inl, inr, arith}
use Rattle.costs.specs.Algebra.{IsJoin}
use Rattle.bay.proofs.FillSteps.{Improving, improving_more, picked_by}
use Rattle.bay.proofs.elimination.improve.Goals as goal

pub loop-t-preserved : goal.loop-t-preserved
loop-t-preserved g c =
    let K = g.C.Cost in
    let n = c.args.n in
    let t = c.loop-t.t in
    let a = K.value c.args.held in
    let z = K.value c.join-sum.result in
    let l : t < n = omega (arith, c.loop-t-test.true, c.requires.spans.1) in
    subst (Improving K n c.args.s c.args.via.now.at c.args.via.now.low (t + 1) c.args.via.now.marks c.args.held c.args.cells.now) (sym c.set_cost.ensures) (
    improving_more K n c.args.s c.args.via.now.at c.args.via.now.low t c.args.via.now.marks c.args.held c.args.cells.now c.loop-t.cells c.requires.room c.requires.inside l c.loop-t.invariant _
    (picked_by K _ c.undercuts.result c.join-sum.result c.cost_in-cost.result c.pick-picked.result a _ _
    (subst (λ b. IsJoin K.algebra a b z) c.cost_in.ensures c.join-sum.ensures) c.cost_in-cost.ensures c.undercuts.ensures.yes c.undercuts.ensures.never c.pick-picked.ensures))

pub returns-clause-others : goal.returns-clause-others
returns-clause-others g c =
    let end = c.loop-t.auto.t-end c.requires.spans.0 in
    λ k h. c.loop-t.invariant.others k (elim h [ inl a ↦ inl a | inr b ↦ inr (omega (arith, b, end, c.loop-t-test.false)) ])
