use Rattle.std.proofs.lemmas.Bool.{not_from_true, both_ways}
use Rattle.bay.proofs.Tights.{same_decided}
use Rattle.bay.proofs.tree.same.Goals as goal

pub returns-then-not-undercuts : goal.returns-then-not-undercuts
returns-then-not-undercuts g c =
    same_decided g.met.C.Cost.lawful _ _ _ _ c.undercuts.ensures.never c.undercuts-then-not-undercuts.ensures.yes
    c.undercuts-then-not-undercuts.ensures.never c.if-not-undercuts.true

pub returns-else-not-undercuts : goal.returns-else-not-undercuts
returns-else-not-undercuts g c = (
  λ h. absurd (both_ways _ (not_from_true _ c.if-not-undercuts.false) h),
  λ e. absurd (g.met.C.Cost.lawful.not_equal _ _ (c.undercuts.ensures.yes c.if-not-undercuts.false) e),
)
