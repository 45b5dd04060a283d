use Rattle.std.proofs.Common.{◌-◌, take, ap, ◌∙◌, arith}
use Rattle.bay.proofs.LegSteps.{length_booked, moved_down}
use Rattle.bay.proofs.legs.Legs.remove.Goals as goal

pub returns : goal.returns
returns c =
    let legs = c.args.self.now in
    ap (take (legs.count - 1)) c.copy_within.ensures.after ∙ moved_down c.args.number legs.count legs.list (omega (arith, length_booked legs, c.requires)) (omega (arith, legs.long, legs.few))
