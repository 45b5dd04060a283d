use Rattle.std.proofs.Common.{sym, ◌∙◌, arith, inr}
use Rattle.bay.proofs.Searches.{aim_few, start_marked, searched_start, exhausted_never}
use Rattle.bay.proofs.tree.GoalTable.lead.Goals as goal

pub find-requires : goal.find-requires
find-requires g c =
    record {
      searched = rw c.new-search.ensures
          (searched_start g.met.R.Cost.Cost.lawful _ _ _ _ (aim_few _ _ _ _ _ c.args.self.now.ready) _ _ c.requires.inside (sym c.has.ensures ∙ c.if-has.false));
    }

pub returns-in_default-clause-covered : goal.returns-in_default-clause-covered
returns-in_default-clause-covered g c =
    let few = aim_few _ _ _ _ _ c.args.self.now.ready in
    let marked = start_marked c.args.start (omega (arith, c.requires.inside, few)) in
    inr (exhausted_never g.met.R.Cost.Cost.lawful _ _ _ _ c.args.self.now.ready _ _ c.find.ensures.searched c.requires.leads.rooted c.in_default.ensures.answer
    c.args.start (c.find.ensures.wider.marks c.args.start (rw c.new-search.ensures marked)))
