use Rattle.std.proofs.Common.{◌≤◌, length, take, ap, ◌∙◌, arith}
use lib.ListN.{length-map}
use Rattle.std.proofs.lemmas.List.{take_at}
use Rattle.bay.specs.Leg.{opened}
use Rattle.bay.specs.Legs.{booked}
use Rattle.bay.proofs.LegSteps.{length_booked, length_opened}
use Rattle.bay.proofs.legs.Legs.open_all.Goals as goal

pub invariant_of-self : goal.invariant_of-self
invariant_of-self c =
    let legs = c.args.self.now in
    let is = c.open_notes.ensures in
    let fits : legs.count ≤ length legs.list = omega (arith, legs.long, legs.few) in
    record {
      long = ap length is ∙ length_opened legs.count legs.list fits ∙ legs.long;
      few = legs.few;
    }

pub returns : goal.returns
returns c =
    let legs = c.args.self.now in
    ap (take legs.count) c.open_notes.ensures ∙ take_at (opened (booked legs)) _ legs.count (length-map (booked legs) _ ∙ length_booked legs)
