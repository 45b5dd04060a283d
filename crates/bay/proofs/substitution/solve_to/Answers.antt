-- One goal after the other, upward; what is done for one stays for the later ones.
use Rattle.std.proofs.Common.{◌≡◌, suc, ◌+◌, ◌*◌, false, inl, inr, sym, ◌∙◌, subst, arith}
use Rattle.std.proofs.lemmas.Bool.{both_ways, cases_eq}
use Rattle.bay.specs.Cells.{tabled}
use Rattle.bay.specs.Eliminated.{ThirdDone, ThirdFrom}
use Rattle.bay.specs.FormatSets.{holds}
use Rattle.bay.proofs.Passes.{beyond_none, beyond_then}
use Rattle.bay.proofs.GoalSteps.{third_passes, turned_done}
use Rattle.bay.proofs.substitution.solve_to.Goals as goal
use Rattle.bay.proofs.substitution.solve_to.Goals.{then-holds, else-holds}

pub loop-goal-init : goal.loop-goal-init
loop-goal-init g c = (beyond_none _ _, c.second_stage.ensures.roomy, λ card sound calm F. (F, λ t l. absurd (omega arith)))

pub loop-goal-preserved : goal.loop-goal-preserved
loop-goal-preserved g c =
    let K = g.C.Cost in
    let n = c.args.n in
    let goal = c.loop-goal.goal in
    let goals = c.args.goals in
    let (beyond, roomy, known) = c.loop-goal.invariant in
    let next : suc goal ≡ goal + 1 = omega arith in
    elim c.if-holds.branch [
      | then-holds w ↦
          let told = w.third_stage.ensures in
          let now = tabled w.third_stage.new.cells w.third_stage.new.there in
          rw (w.cells-is, w.there-is) (
            beyond_then _ _ _ _ beyond told.beyond,
            told.roomy,
            λ card sound calm F.
                (let (from, served) = known card sound calm F in
                let (done, onward, kept) = told.done card sound calm goals (sym c.holds.ensures ∙ w.if-holds.true) from in (
                  subst (ThirdFrom K n card now goals) next onward,
                  λ t l h. elim (cases_eq t goal) [
                    | inl e ↦ subst (ThirdDone K n card now) (sym e) done
                    | inr ne ↦ kept t (omega (arith, l, c.loop-goal-test.true)) ne (served t (omega (arith, l, ne)) h)
                  ],
                )),
          )
      | else-holds w ↦
          rw (w.cells-is, w.there-is) (
            beyond,
            roomy,
            λ card sound calm F.
                (let (from, served) = known card sound calm F in (
                  subst (ThirdFrom K n card (tabled c.loop-goal.cells c.loop-goal.there) goals) next (third_passes K n card _ goals goal from),
                  λ t l h. elim (cases_eq t goal) [
                    | inl e ↦ absurd (both_ways (holds goals t) (subst (λ t. holds goals t ≡ false) (sym e) (sym c.holds.ensures ∙ w.if-holds.false)) h)
                    | inr ne ↦ served t (omega (arith, l, ne)) h
                  ],
                )),
          )
    ]

pub returns : goal.returns
returns g c =
    let K = g.C.Cost in
    let n = c.args.n in
    let (beyond, roomy, known) = c.loop-goal.invariant in
    record {
      roomy = roomy;
      beyond = beyond_then (n * n) _ _ _ (beyond_then (n * n) _ _ _ c.turn_over.ensures.beyond c.second_stage.ensures.beyond) beyond;
      least = λ card sound calm first goal inside is_goal.
          (let turned = turned_done K n card (tabled c.args.cells.now c.args.there.now) (tabled c.turn_over.new.cells c.turn_over.new.there) c.turn_over.ensures.turned first in
          (known card sound calm (c.second_stage.ensures.middle card sound calm turned)).1 goal (omega (arith, inside, c.loop-goal-test.false)) is_goal);
    }
