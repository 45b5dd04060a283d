-- One format after the other.
use Rattle.std.proofs.Common.{◌≡◌, suc, ◌+◌, subst, arith}
use Rattle.bay.specs.Cells.{tabled}
use Rattle.bay.specs.Eliminated.{SecondTo}
use Rattle.bay.proofs.Passes.{beyond_none, beyond_then}
use Rattle.bay.proofs.GoalSteps.{second_end, second_start}
use Rattle.bay.proofs.substitution.second_stage.Goals as goal

pub loop-j-init : goal.loop-j-init
loop-j-init g c = (
  beyond_none _ _,
  c.requires.roomy,
  λ card sound calm done. second_start g.C.Cost g.met.C.Cost.lawful c.args.n card sound calm c.args.goals (tabled c.args.cells.now c.args.there.now) done,
)

pub loop-j-preserved : goal.loop-j-preserved
loop-j-preserved g c =
    let (beyond, roomy, known) = c.loop-j.invariant in
    let told = c.pass_goals.ensures in
    let next : suc c.loop-j.j ≡ c.loop-j.j + 1 = omega arith in (
      beyond_then _ _ _ _ beyond told.beyond,
      told.roomy,
      λ card sound calm done. subst (λ k. SecondTo g.C.Cost c.args.n card (tabled c.pass_goals.new.cells c.pass_goals.new.there) c.args.goals (λ s. k)) next (told.passed card sound calm (known card sound calm done)),
    )

pub returns-clause-middle : goal.returns-clause-middle
returns-clause-middle g c =
    let K = g.C.Cost in
    let now = tabled c.loop-j.cells c.loop-j.there in
    let (beyond, roomy, known) = c.loop-j.invariant in
    let end : c.loop-j.j ≡ c.args.n = omega (arith, c.loop-j.auto.j-end, c.loop-j-test.false) in
    λ card sound calm done. second_end K g.met.C.Cost.lawful c.args.n card sound calm c.args.goals now (subst (λ k. SecondTo K c.args.n card now c.args.goals (λ s. k)) end (known card sound calm done))
