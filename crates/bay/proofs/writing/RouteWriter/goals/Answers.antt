use Rattle.std.proofs.Common.{◌<◌, length, get_or, sym, ap, subst, arith}
use Rattle.registers.specs.Meaning.{most_formats}
use Rattle.bay.specs.Leg.{no_leg}
use Rattle.bay.specs.Legs.{booked}
use Rattle.bay.proofs.LegSteps.{ended_more}
use Rattle.bay.proofs.SlotSteps.{leg_below}
use Rattle.bay.proofs.writing.RouteWriter.goals.Goals as goal

pub with-goals-requires : goal.with-goals-requires
with-goals-requires g c =
    let legs = booked c.args.self.now.legs.now in
    let is = ap (λ legs. get_or legs c.loop-leg.leg-index no_leg) c.as_slice-leg-items.ensures in
    subst (λ leg. leg.to < most_formats) (sym is) (leg_below most_formats legs c.requires c.loop-leg.leg-index (omega (arith, ap length c.as_slice-leg-items.ensures))).1

pub loop-leg-preserved : goal.loop-leg-preserved
loop-leg-preserved g c =
    let is = ap (λ legs. get_or legs c.loop-leg.leg-index no_leg) c.as_slice-leg-items.ensures in
    ended_more _ _ _ c.loop-leg.invariant _ is _ c.with-goals.ensures.there c.with-goals.ensures.others
