use Rattle.std.proofs.Common.{map, ap, ◌∙◌}
use Rattle.bay.specs.Plain.{ends}
use Rattle.bay.proofs.Granted.{after_granted, ends_opened, inside_same}
use Rattle.bay.proofs.bays.Bay.enter.Goals as goal

pub invariant_of-self-2 : goal.invariant_of-self-2
invariant_of-self-2 g c =
    record { inside = inside_same _ _ _ _ (ap (λ m. m.size) c.in_ok-enter.ensures.after) (ap (map ends) c.open_all.ensures ∙ ends_opened _) c.args.self.now.inside }

pub returns-clause-after : goal.returns-clause-after
returns-clause-after g c =
    let told = c.in_ok-enter.ensures in
    after_granted _ _ _ _ told.answer (λ i. record { register = told.after i; legs = (ap (map ends) c.open_all.ensures ∙ ends_opened _) i })
