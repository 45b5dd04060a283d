use Rattle.std.proofs.Common.{map, refl, ap, ◌∙◌, arith}
use Rattle.registers.specs.Meaning.{meant}
use Rattle.bay.specs.Legs.{booked}
use Rattle.bay.specs.Plain.{ends}
use Rattle.bay.proofs.Granted.{after_granted, ends_struck, inside_same, inside_struck, none_missing}
use Rattle.bay.proofs.bays.Bay.strike.Goals as goal

pub invariant_of-self : goal.invariant_of-self
invariant_of-self g c =
    let legs = booked c.args.self.now.legs in
    record { inside = inside_same _ _ _ _ refl (ap (map ends) c.remove.ensures ∙ ends_struck c.args.number legs) (inside_struck _ c.args.number (map ends legs) c.args.self.now.inside) }

pub returns-clause-after : goal.returns-clause-after
returns-clause-after g c =
    let m = meant g.R.Cost.Cost (g.R.Register.holds c.args.self.now.register) in
    let legs = booked c.args.self.now.legs in
    after_granted _ _ _ _ (none_missing legs c.args.number (omega (arith, c.len.ensures.value))) (λ i. record { register = m; legs = (ap (map ends) c.remove.ensures ∙ ends_struck c.args.number legs) i })
