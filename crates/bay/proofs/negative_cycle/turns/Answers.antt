use Rattle.std.proofs.Common.{arith}
use Rattle.bay.proofs.Passes.{near_joinable}
use Rattle.bay.proofs.Turning.{card_near, turns_near}
use Rattle.bay.proofs.negative_cycle.turns.Goals as goal

pub undercut_unit-requires : goal.undercut_unit-requires
undercut_unit-requires g c =
    let L = g.met.R.Cost.Cost.lawful in
    let kind = g.R.Cost.Cost in
    let back = c.requires.back in
    rw c.cost_at.ensures (∣ near_joinable kind.algebra c.args.n _ _ (omega (arith, back.roomy.few))
    (card_near kind L c.args.n _ back.roomy.few c.card.ensures.admitted) (turns_near _ L _ _ _ _ back c.args.v c.requires.lower) ∣₁)

pub returns : goal.returns
returns g c = rw (c.card.ensures.value, c.cost_at.ensures) at c.undercut_unit.ensures
