use Rattle.std.proofs.Common.{sym, ◌∙◌}
use Rattle.bay.specs.GoalTables.{cards_of, cost_of}
use Rattle.bay.proofs.Tights.{to_goal_inside}
use Rattle.bay.proofs.tree.GoalTable.rest.Goals as goal

pub returns : goal.returns
returns g c =
    let p = c.args.self.now in
    record {
      rest = c.cost_at.ensures ∙ sym (to_goal_inside g.met.R.Cost.Cost.lawful p.n (cards_of p) (cost_of p) p.goal c.args.from c.requires);
      cost = c.cost_at.ensures;
    }
