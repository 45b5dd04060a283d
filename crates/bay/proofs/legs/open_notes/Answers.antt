use Rattle.std.proofs.Common.{◌<◌, length, get_or, take, arith}
use Rattle.std.proofs.lemmas.List.{get_or_default}
use Rattle.std.proofs.lemmas.List.Edits.{map_over_more}
use Rattle.bay.specs.Leg.{no_leg, noted}
use Rattle.bay.specs.declared.legs.Note.TheVariants.{Open}
use Rattle.bay.proofs.legs.open_notes.Goals as goal

pub loop-leg-preserved : goal.loop-leg-preserved
loop-leg-preserved c =
    let legs = c.loop-leg.leg-items in
    let here : c.loop-leg.leg-index < length legs = omega (arith, c.loop-leg.auto.leg-items) in
    let leg = get_or legs c.loop-leg.leg-index no_leg in
    map_over_more (noted Open) (take c.args.count c.args.list.now) legs c.loop-leg.leg-index leg c.loop-leg-test.true c.loop-leg.invariant (get_or_default legs c.loop-leg.leg-index no_leg leg here)
