-- From the highest format down; then the goal's own cell is set.
use Rattle.std.proofs.Common.{◌≡◌, ◌+◌, ◌-◌, ◌<◌, subst, arith}
use Rattle.bay.specs.Cells.{tabled}
use Rattle.bay.proofs.Passes.{beyond_none, beyond_then}
use Rattle.bay.proofs.GoalSteps.{ThirdAt, third_done, third_from, third_kept, third_more, third_near, third_skip, third_start}
use Rattle.bay.proofs.substitution.third_stage.Goals as goal

pub loop-j-init : goal.loop-j-init
loop-j-init g c = (
  beyond_none _ _,
  c.requires.roomy,
  λ card sound calm goals inside is_goal F. third_start g.C.Cost g.met.C.Cost.lawful c.args.n card sound calm goals c.args.goal inside is_goal _ F,
)

pub loop-j-preserved-then-j-goal : goal.loop-j-preserved-then-j-goal
loop-j-preserved-then-j-goal g c =
    let K = g.C.Cost in
    let L = g.met.C.Cost.lawful in
    let n = c.args.n in
    let j = c.loop-j.j - 1 in
    let goal = c.args.goal in
    let before = tabled c.args.cells.now c.args.there.now in
    let now = tabled c.loop-j.cells c.loop-j.there in
    let next : c.loop-j.j ≡ j + 1 = omega arith in
    let lj : j < n = omega arith in
    let (beyond, roomy, known) = c.loop-j.invariant in
    let told = c.pass_back.ensures in (
      beyond_then _ _ _ _ beyond told.beyond,
      told.roomy,
      λ card sound calm goals inside is_goal F.
          (let T = subst (ThirdAt K L n card sound calm goals goal inside is_goal before F now) next (known card sound calm goals inside is_goal F) in
          third_more K L n card sound calm goals goal inside is_goal before F now j lj T c.if-j-goal.true (tabled c.pass_back.new.cells c.pass_back.new.there)
          (told.passed (third_near K L n card sound calm goals goal inside is_goal before F now j lj T c.if-j-goal.true))),
    )

pub loop-j-preserved : goal.loop-j-preserved
loop-j-preserved g c =
    let K = g.C.Cost in
    let L = g.met.C.Cost.lawful in
    let n = c.args.n in
    let j = c.loop-j.j - 1 in
    let goal = c.args.goal in
    let before = tabled c.args.cells.now c.args.there.now in
    let now = tabled c.loop-j.cells c.loop-j.there in
    let next : c.loop-j.j ≡ j + 1 = omega arith in
    let lj : j < n = omega arith in
    let (beyond, roomy, known) = c.loop-j.invariant in (
      beyond,
      roomy,
      λ card sound calm goals inside is_goal F.
          (let T = subst (ThirdAt K L n card sound calm goals goal inside is_goal before F now) next (known card sound calm goals inside is_goal F) in
          third_skip K L n card sound calm goals goal inside is_goal before F now j lj T c.if-j-goal.false),
    )

pub returns-clause-done : goal.returns-clause-done
returns-clause-done g c =
    let K = g.C.Cost in
    let L = g.met.C.Cost.lawful in
    let n = c.args.n in
    let goal = c.args.goal in
    let before = tabled c.args.cells.now c.args.there.now in
    let now = tabled c.loop-j.cells c.loop-j.there in
    let (beyond, roomy, known) = c.loop-j.invariant in
    let end : c.loop-j.j ≡ 0 = omega (arith, c.loop-j-test.false) in
    λ card sound calm goals is_goal F.
    (let T = subst (ThirdAt K L n card sound calm goals goal c.requires.inside is_goal before F now) end (known card sound calm goals c.requires.inside is_goal F) in
    rw c.set_cost.ensures (
      third_done K L n card sound calm goals goal c.requires.inside is_goal before F now T roomy _ c.unit.ensures c.with.result c.with.ensures.there c.with.ensures.others,
      third_from K L n card sound calm goals goal c.requires.inside is_goal before F now T roomy _ c.unit.ensures c.with.result c.with.ensures.there c.with.ensures.others,
      third_kept K L n card sound calm goals goal c.requires.inside is_goal before F now T roomy _ c.unit.ensures c.with.result c.with.ensures.there c.with.ensures.others,
    ))
