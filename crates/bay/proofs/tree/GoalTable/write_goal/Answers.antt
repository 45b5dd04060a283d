use Rattle.std.proofs.Common.{◌≡◌, ◌+◌, ◌<◌, get_or, sym, ap, ◌∙◌, subst, arith}
use Rattle.bay.specs.GoalTables.{cards_of, cost_of}
use Rattle.bay.specs.Tracing.{Traced}
use Rattle.bay.specs.Leg.{no_leg}
use Rattle.bay.specs.Plain.{ends}
use Rattle.bay.specs.RouteWriters.{SameMemory, slots_of}
use Rattle.bay.proofs.SlotSteps.{Serving, leg_below, lent_then, same_ends, same_number, serving_passes, serving_more}
use Rattle.bay.proofs.tree.GoalTable.write_goal.Goals as goal
use Rattle.bay.proofs.tree.GoalTable.write_goal.Goals.{then-leg-self, else-leg-self}

pub write_leg-requires-clause-inside : goal.write_leg-requires-clause-inside
write_leg-requires-clause-inside g c =
    let p = c.args.self.now in
    let before = slots_of c.args.writer.now in
    let now = slots_of c.loop-k.writer in
    let written = c.loop-k.invariant.0.written in
    let here = ap (λ list. ends (get_or list c.loop-k.k no_leg)) c.as_slice.ensures in (
      subst (λ e. e.from < p.n) (sym (here ∙ same_ends before now written c.loop-k.k))
          (leg_below p.n before.legs c.requires.legs c.loop-k.k (omega (arith, same_number before now written, c.len-k-end.ensures.value))).0,
      c.if-leg-self.true,
    )

pub write_leg-requires-clause-traced : goal.write_leg-requires-clause-traced
write_leg-requires-clause-traced g c =
    let p = c.args.self.now in
    let leg = get_or c.as_slice.result.now c.loop-k.k no_leg in
    let before = slots_of c.args.writer.now in
    let now = slots_of c.loop-k.writer in
    let written = c.loop-k.invariant.0.written in
    let is : ends leg ≡ ends (get_or before.legs c.loop-k.k no_leg) = ap (λ list. ends (get_or list c.loop-k.k no_leg)) c.as_slice.ensures ∙ same_ends before now written c.loop-k.k in
    subst (λ v. Traced g.R.Cost.Cost.algebra p.n (cards_of p) (cost_of p) p.goal c.args.next.now v) (sym (ap (λ e. e.from) is))
    (c.requires.traced c.loop-k.k (omega (arith, same_number before now written, c.len-k-end.ensures.value)) (sym (ap (λ e. e.to) is) ∙ c.if-leg-self.true))

pub loop-k-preserved : goal.loop-k-preserved
loop-k-preserved g c =
    let (serving, lent) = c.loop-k.invariant in
    let before = slots_of c.args.writer.now in
    let now = slots_of c.loop-k.writer in
    let card = cards_of c.args.self.now in
    let same = ap (λ legs. (get_or legs c.loop-k.k no_leg).to) (sym c.as_slice.ensures) in
    elim c.if-leg-self.branch [
      | then-leg-self w ↦
          let told = w.write_leg.ensures in
          subst (λ p. Serving g.R.Cost.Cost card c.args.next.now c.args.self.now.goal before (slots_of p) (c.loop-k.k + 1) × SameMemory c.args.writer.now p) (sym w.writer-is) (
            serving_more g.R.Cost.Cost card c.args.next.now c.args.self.now.goal before now c.loop-k.k serving (slots_of w.write_leg.new.writer) (same ∙ w.if-leg-self.true) told.done.written told.done.others told.done.done,
            lent_then c.args.writer.now c.loop-k.writer w.write_leg.new.writer lent told.lent,
          )
      | else-leg-self w ↦
          subst (λ p. Serving g.R.Cost.Cost card c.args.next.now c.args.self.now.goal before (slots_of p) (c.loop-k.k + 1) × SameMemory c.args.writer.now p) (sym w.writer-is) (
            serving_passes g.R.Cost.Cost card c.args.next.now c.args.self.now.goal before now c.loop-k.k serving (λ e. w.if-leg-self.false (sym same ∙ e)),
            lent,
          )
    ]

pub returns-clause-served : goal.returns-clause-served
returns-clause-served g c = λ k lt. c.loop-k.invariant.0.done k (omega (arith, same_number (slots_of c.args.writer.now) (slots_of c.loop-k.writer) c.loop-k.invariant.0.written, c.len-k-end.ensures.value))
