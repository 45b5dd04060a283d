use Rattle.std.proofs.Common.{arith}
use Rattle.bay.proofs.Passes.{near_joinable}
use Rattle.bay.proofs.elimination.closes.Goals as goal

pub undercut_unit-requires : goal.undercut_unit-requires
undercut_unit-requires g c =
    let ready = c.requires.ready in
    let near = ready.near c.args.k (omega (arith, c.requires.lower, ready.inside)) (λ e. absurd (omega (arith, e, c.requires.lower))) in
    rw (c.cost_at.ensures, c.cost_at-2.ensures) (∣ near_joinable g.C.Cost.algebra c.args.n _ _ ready.small near.1 near.0 ∣₁)

pub returns : goal.returns
returns g c = rw (c.cost_at.ensures, c.cost_at-2.ensures) at c.undercut_unit.ensures
