use Rattle.std.proofs.Common.{◌<◌, length, get_or, sym, refl, ap, ◌∙◌, subst, true≢false, arith}
use Rattle.registers.specs.Meaning.{most_formats}
use Rattle.bay.specs.Leg.{no_leg}
use Rattle.bay.specs.Legs.{booked}
use Rattle.bay.proofs.Follow.{none_ticked}
use Rattle.bay.proofs.LegSteps.{only_more, only_passes, started_more, started_passes}
use Rattle.bay.proofs.SlotSteps.{leg_below}
use Rattle.bay.proofs.writing.RouteWriter.starts_to.Goals as goal
use Rattle.bay.proofs.writing.RouteWriter.starts_to.Goals.{then-leg-goal, else-leg-goal}

pub bounds-starts-leg : goal.bounds-starts-leg
bounds-starts-leg g c =
    let legs = booked c.args.self.now.legs.now in
    let is = ap (λ legs. get_or legs c.loop-leg.leg-index no_leg) c.as_slice-leg-items.ensures in
    subst (λ leg. leg.from < most_formats) (sym is) (leg_below most_formats legs c.requires c.loop-leg.leg-index (omega (arith, ap length c.as_slice-leg-items.ensures))).0

pub loop-leg-init : goal.loop-leg-init
loop-leg-init g c = ((refl, λ k l to. absurd (omega arith)), λ v h. absurd (true≢false (sym h ∙ none_ticked most_formats v)))

pub loop-leg-preserved : goal.loop-leg-preserved
loop-leg-preserved g c =
    let legs = booked c.args.self.now.legs.now in
    let is = ap (λ legs. get_or legs c.loop-leg.leg-index no_leg) c.as_slice-leg-items.ensures in
    let inside = leg_below most_formats legs c.requires c.loop-leg.leg-index (omega (arith, ap length c.as_slice-leg-items.ensures)) in
    elim c.if-leg-goal.branch [
      | then-leg-goal w ↦ (
        started_more _ _ _ _ c.loop-leg.invariant.0 _ is (subst (λ leg. leg.from < most_formats) (sym is) inside.0) _ w.starts-is,
        only_more _ _ _ _ c.loop-leg.invariant.1 _ is w.if-leg-goal.true _ w.starts-is,
      )
      | else-leg-goal w ↦ (
        started_passes _ _ _ _ c.loop-leg.invariant.0 (λ to. w.if-leg-goal.false (ap (λ leg. leg.to) is ∙ to)) _ w.starts-is,
        only_passes _ _ _ _ c.loop-leg.invariant.1 _ w.starts-is,
      )
    ]
