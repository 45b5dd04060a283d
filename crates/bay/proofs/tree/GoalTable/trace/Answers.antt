use Rattle.std.proofs.Common.{rules}
use Rattle.bay.proofs.Searches.{served_ticked, served_traced}
use Rattle.bay.proofs.tree.GoalTable.trace.Goals as goal

pub lead_all-requires : goal.lead_all-requires
lead_all-requires g c = record { ready = c.requires.ready; clear = c.requires.clear }

pub returns : goal.returns
returns g c =
    let L = g.met.R.Cost.Cost.lawful in
    record {
      traced = λ v l want. served_traced L _ _ _ _ c.requires.ready _ _ c.lead_all.ensures.leads v l (c.lead_all.ensures.covered v l want);
      ticked = λ v l want. served_ticked L _ _ _ _ _ _ c.lead_all.ensures.leads v l (c.lead_all.ensures.covered v l want);
      same = search rules;
    }
