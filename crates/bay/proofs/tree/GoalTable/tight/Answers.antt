use Rattle.std.proofs.Common.{sym, ap, ◌∙◌}
use Rattle.std.specs.Option.{option_map}
use Rattle.bay.specs.GoalTables.{cards_of, cost_of}
use Rattle.bay.proofs.Tights.{tight_decided}
use Rattle.bay.proofs.tree.GoalTable.tight.Goals as goal

pub returns : goal.returns
returns g c =
    let L = g.met.R.Cost.Cost.lawful in
    let means = option_map g.R.Cost.Cost.value in
    let p = c.args.self.now in
    tight_decided L p.n (cards_of p) (cost_of p) p.goal p.ready _ _ _ _ _ _ _
    (sym c.card_upto.ensures.value ∙ ap means c.in-Some-card_upto.is) (sym (ap means c.in-Some.is) ∙ c.rest.ensures.rest)
    c.requires.whole c.join.ensures c.same.ensures
