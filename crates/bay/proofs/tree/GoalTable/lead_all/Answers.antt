use Rattle.std.proofs.Common.{ap, ◌∙◌, refl, arith, below_more}
use Rattle.std.proofs.lemmas.Bool.{both_ways}
use Rattle.bay.specs.Tracing.{Covered}
use Rattle.bay.specs.GoalTables.{cards_of, cost_of}
use Rattle.bay.proofs.Searches.{aim_few, aim_inside, tended_start, served_on}
use Rattle.bay.proofs.Tights.{to_goal_goal}
use Rattle.bay.proofs.tree.GoalTable.lead_all.Goals as goal
use Rattle.bay.proofs.tree.GoalTable.lead_all.Goals.{then-wanted-start, else-wanted-start}

pub loop-start-init : goal.loop-start-init
loop-start-init g c = (
  rw c.tick.ensures.ticked
      (tended_start g.met.R.Cost.Cost.lawful _ _ _ _ (aim_few _ _ _ _ _ c.args.self.now.ready) _ _ (aim_inside _ _ _ _ _ c.args.self.now.ready)
      (to_goal_goal g.met.R.Cost.Cost.lawful _ _ _ _ c.requires.ready)
      c.args.ticks.now.long c.told-next c.requires.clear),
  λ v l. absurd (omega arith),
  refl,
)

pub bounds-wanted-start : goal.bounds-wanted-start
bounds-wanted-start g c = omega (arith, c.loop-start-test.true, aim_few _ _ _ _ _ c.args.self.now.ready)

pub loop-start-preserved : goal.loop-start-preserved
loop-start-preserved g c =
    let (leads, served, same) = c.loop-start.invariant in
    elim c.if-wanted-start.branch [
      | then-wanted-start w ↦
          let e = w.lead.ensures in (
            rw (w.ticks-is, w.next-is) e.leads,
            rw w.ticks-is (below_more _ _ (λ v l want. served_on g.met.R.Cost.Cost.lawful c.args.self.now.n (cards_of c.args.self.now) (cost_of c.args.self.now) c.args.self.now.goal _ _ v e.rises (served v l want)) (λ _. e.covered)),
            ap (λ t. t.sheet.ghost_name) w.ticks-is ∙ e.same ∙ same,
          )
      | else-wanted-start w ↦ (
        rw (w.ticks-is, w.next-is) leads,
        rw w.ticks-is (below_more _ _ served (λ want. absurd {A = Covered g.R.Cost.Cost.algebra c.args.self.now.n (cards_of c.args.self.now) (cost_of c.args.self.now) c.args.self.now.goal c.loop-start.ticks.sheet.now c.loop-start.start} (both_ways _ w.if-wanted-start.false want))),
        ap (λ t. t.sheet.ghost_name) w.ticks-is ∙ same,
      )
    ]

pub returns-clause-covered : goal.returns-clause-covered
returns-clause-covered g c = λ v l want. c.loop-start.invariant.1 v (omega (arith, l, c.loop-start-test.false)) want
