use Rattle.std.proofs.Common.{sym}
use Rattle.registers.proofs.Views.{viewed_after_enter}
use Rattle.registers.proofs.over.OverRegister.enter.Goals as goal

pub returns-clause-after : goal.returns-clause-after
returns-clause-after g c =
    let over = c.args.self.now in
    viewed_after_enter g.R.Cost.Cost (g.V.View.shuts over.view) (g.V.View.turned over.view) (g.R.Register.holds over.below) (g.R.Register.holds c.enter.new.self) _ _ (sym c.if-shuts.ensures) _ _ (rw c.pair_below-from.ensures at c.enter.ensures.after)
