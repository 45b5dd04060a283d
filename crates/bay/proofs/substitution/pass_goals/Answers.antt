-- One goal's row after the other; the row of the format stays.
use Rattle.std.proofs.Common.{◌≡◌, ◌+◌, ◌<◌, true, get_or, refl, sym, ◌∙◌, subst, arith}
use Rattle.bay.specs.Cells.{tabled}
use Rattle.bay.specs.Eliminated.{Block, Improved, Leads, SecondTo}
use Rattle.bay.specs.FormatSets.{holds, no_formats}
use Rattle.bay.proofs.Passes.{beyond_none, beyond_then}
use Rattle.bay.proofs.GoalSteps.{goal_ready, level, row_block, second_enter, second_leave, second_more, second_near, second_skip}
use Rattle.bay.proofs.substitution.pass_goals.Goals as goal
use Rattle.bay.proofs.substitution.pass_goals.Goals.{then-holds, else-holds}

pub loop-goal-init : goal.loop-goal-init
loop-goal-init g c = (
  beyond_none _ _,
  c.requires.roomy,
  refl,
  λ card sound calm S. second_enter g.C.Cost g.met.C.Cost.lawful c.args.n card sound calm c.args.goals (tabled c.args.cells.now c.args.there.now) c.args.j S,
)

pub by_way-requires : goal.by_way-requires
by_way-requires g c =
    let (beyond, roomy, same, known) = c.loop-goal.invariant in
    let n = c.args.n in
    let j = c.args.j in
    let now = tabled c.loop-goal.cells c.loop-goal.there in
    record {
      ready = goal_ready g.C.Cost g.met.C.Cost.lawful n j c.loop-goal.goal (j + 1) n c.new-via.result now roomy (omega (arith, c.loop-goal-test.true, c.requires.inside)) c.requires.inside (λ e. absurd (omega (arith, e, c.loop-goal-test.true)))
          c.new-via.ensures.at c.new-via.ensures.spans (λ w l m e. absurd (omega (arith, l, e))) (subst (λ r. Leads r (j + 1) n c.new-via.result.reached) (sym same) c.new-via.ensures.leads);
    }

pub loop-goal-preserved : goal.loop-goal-preserved
loop-goal-preserved g c =
    let K = g.C.Cost in
    let L = g.met.C.Cost.lawful in
    let n = c.args.n in
    let j = c.args.j in
    let goal = c.loop-goal.goal in
    let now = tabled c.loop-goal.cells c.loop-goal.there in
    let (beyond, roomy, same, known) = c.loop-goal.invariant in
    let below : goal < j = c.loop-goal-test.true in
    let leads = subst (λ r. Leads r (j + 1) n c.new-via.result.reached) (sym same) c.new-via.ensures.leads in
    let at = c.new-via.ensures.at in
    elim c.if-holds.branch [
      | then-holds w ↦
          let told = w.by_way.ensures in
          rw (w.cells-is, w.there-is) (
            beyond_then _ _ _ _ beyond told.beyond,
            told.roomy,
            told.others j (λ e. absurd (omega (arith, e, below))) ∙ same,
            λ card sound calm S.
                (let is_goal : holds c.args.goals goal ≡ true = sym c.holds.ensures ∙ w.if-holds.true in
                let T = known card sound calm S in
                let i = told.passed (second_near K L n card sound calm c.args.goals now j goal c.requires.inside below is_goal T c.new-via.result at leads) in
                second_more K L n card sound calm c.args.goals now j goal c.requires.inside below is_goal T _
                (subst (λ k. Improved K n k (Block goal (goal + 1) (j + 1) n) now (tabled w.by_way.new.cells w.by_way.new.there)) at (row_block K L n c.new-via.result.at goal (j + 1) n c.new-via.result now _ (omega arith) (subst (λ k. Leads (get_or c.loop-goal.there k no_formats) (j + 1) n c.new-via.result.reached) (sym at) leads) i))),
          )
      | else-holds w ↦
          rw (w.cells-is, w.there-is) (
            beyond,
            roomy,
            same,
            λ card sound calm S. second_skip K L n card sound calm c.args.goals now j goal (sym c.holds.ensures ∙ w.if-holds.false) (known card sound calm S),
          )
    ]

pub returns-clause-passed : goal.returns-clause-passed
returns-clause-passed g c =
    let K = g.C.Cost in
    let L = g.met.C.Cost.lawful in
    let now = tabled c.loop-goal.cells c.loop-goal.there in
    let (beyond, roomy, same, known) = c.loop-goal.invariant in
    let end : c.loop-goal.goal ≡ c.args.j = omega (arith, c.loop-goal.auto.goal-end, c.loop-goal-test.false) in
    λ card sound calm S. second_leave K L c.args.n card sound calm c.args.goals now c.args.j c.requires.inside (subst (λ e. SecondTo K c.args.n card now c.args.goals (level K L c.args.n card sound calm c.args.j e)) end (known card sound calm S))
