use Rattle.std.proofs.Common.{◌<◌, set, sym, ap, ◌∙◌, arith, get_or-take}
use lib.Seq.{take-set-lt}
use Rattle.bay.specs.Leg.{noted, no_leg}
use Rattle.bay.specs.Legs.{booked}
use Rattle.bay.proofs.LegSteps.{length_booked}
use Rattle.bay.proofs.legs.Legs.set_note.Goals as goal

pub returns : goal.returns
returns c =
    let legs = c.args.self.now in
    let n = c.args.number in
    let inside : n < legs.count = omega (arith, length_booked legs) in
    take-set-lt legs.count legs.list n _ inside ∙ ap (λ l. set (booked legs) n (noted c.args.note l)) (sym (get_or-take legs.count legs.list n no_leg inside))
