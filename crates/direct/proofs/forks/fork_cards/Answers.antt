-- The cards of the new bay's register are those that are handed in.
use Rattle.std.proofs.Common.{sym, ap, subst, inr, ◌∙◌}
use Rattle.costs.specs.Kind.{admits}
use Rattle.registers.specs.Meaning.{meant}
use Rattle.lent.specs.Grid.{grid}
use Rattle.bay.specs.Buffers.{buffers}
use Rattle.bay.specs.Splits.{ForkAnswer}
use Rattle.direct.proofs.forks.fork_cards.Goals as goal

pub returns : goal.returns
returns g c =
    let K = g.C.Cost in
    let held = ap (λ r. grid (admits K) r.n r.costs.now) c.new-bay.ensures.register ∙ c.new.ensures.holds in
    let before = buffers c.args.table.now c.args.costs.now c.args.chains.now in
    let after = buffers c.fork.new.table c.fork.new.costs c.fork.new.chains in
    inr (record {
      fit = sym c.in_ok-check.ensures.answer;
      fork = subst (λ m. ForkAnswer K (meant K m) c.args.input c.args.first c.args.second before after c.fork.result) held c.fork.ensures.answer;
    })
