-- Each turn makes one more call, in the next part of the sheets if it works in one.
use Rattle.std.proofs.Common.{◌≡◌, true, length, sym, refl, subst, ◌∙◌, arith}
use Rattle.std.proofs.lemmas.List.Elements.{All-get_or}
use Rattle.bay.specs.Calls.{keeps_register}
use Rattle.bay.specs.Limits.{most_legs}
use Rattle.bay.specs.Runs.{AllKeepRegister, part_bytes}
use Rattle.bay.proofs.RunSteps.{byte_of, part_room, parts_front, ran_all, ran_more, ran_none, run_room}
use Rattle.bay.proofs.bays.Bay.run.Goals as goal

pub loop-i-init : goal.loop-i-init
loop-i-init g c = (ran_none _ _ _ _ _ _ _, λ all. refl)

pub call_in_part-requires-clause-costs : goal.call_in_part-requires-clause-costs
call_in_part-requires-clause-costs g c =
    let room = run_room c.args.calls.now (length c.args.costs.now) (length c.args.chains.now) (length c.args.answers.now) c.in_ok-judge_run.ensures in
    part_room c.args.calls.now c.loop-i.i c.loop-i.part c.index-calls-i.result most_legs (length c.loop-i.costs) c.loop-i.invariant.0.parts_are c.loop-i-test.true c.index-calls-i.is (omega (arith, room.costs, c.loop-i.auto.costs))

pub call_in_part-requires-clause-chains : goal.call_in_part-requires-clause-chains
call_in_part-requires-clause-chains g c =
    let room = run_room c.args.calls.now (length c.args.costs.now) (length c.args.chains.now) (length c.args.answers.now) c.in_ok-judge_run.ensures in
    part_room c.args.calls.now c.loop-i.i c.loop-i.part c.index-calls-i.result part_bytes (length c.loop-i.chains) c.loop-i.invariant.0.parts_are c.loop-i-test.true c.index-calls-i.is (omega (arith, room.chains, c.loop-i.auto.chains))

pub overflow_add-part : goal.overflow_add-part
overflow_add-part g c =
    let room = run_room c.args.calls.now (length c.args.costs.now) (length c.args.chains.now) (length c.args.answers.now) c.in_ok-judge_run.ensures in
    let front = parts_front c.args.calls.now c.loop-i.i c.index-calls-i.result c.loop-i-test.true c.index-calls-i.is in
    let byte = c.from-part.ensures ∙ byte_of c.index-calls-i.result _ c.takes_part.ensures in
    omega (arith, room.costs, front, byte, c.loop-i.invariant.0.parts_are)

pub loop-i-preserved : goal.loop-i-preserved
loop-i-preserved g c =
    let room = run_room c.args.calls.now (length c.args.costs.now) (length c.args.chains.now) (length c.args.answers.now) c.in_ok-judge_run.ensures in
    let byte = c.from-part.ensures ∙ byte_of c.index-calls-i.result _ c.takes_part.ensures in
    let kept : AllKeepRegister c.args.calls.now → c.call_in_part.new.self.register ≡ c.args.self.now.register = λ all. c.call_in_part.ensures.register (subst (λ x. keeps_register x ≡ true) (sym c.index-calls-i.is) (All-get_or (λ x. keeps_register x ≡ true) c.args.calls.now c.loop-i.i c.index-calls-i.result c.loop-i-test.true all)) ∙ c.loop-i.invariant.1 all in (
      ran_more _ _ _ _ _ _ _ c.loop-i.i _ _ _ _ _ _ _ _ _ _ _ _ _ _ _ byte c.loop-i-test.true c.index-calls-i.is room.answers c.loop-i.invariant.0 c.call_in_part.ensures.made
          (λ t. (
            part_room c.args.calls.now c.loop-i.i c.loop-i.part c.index-calls-i.result most_legs (length c.loop-i.costs) c.loop-i.invariant.0.parts_are c.loop-i-test.true c.index-calls-i.is (omega (arith, room.costs, c.loop-i.auto.costs)) t,
            part_room c.args.calls.now c.loop-i.i c.loop-i.part c.index-calls-i.result part_bytes (length c.loop-i.chains) c.loop-i.invariant.0.parts_are c.loop-i-test.true c.index-calls-i.is (omega (arith, room.chains, c.loop-i.auto.chains)) t,
          )),
      kept,
    )

pub returns-clause-ran : goal.returns-clause-ran
returns-clause-ran g c = ran_all _ _ _ _ _ _ _ c.loop-i.i _ _ _ _ _ _ _ (omega arith) c.loop-i.invariant.0

pub returns-clause-register : goal.returns-clause-register
returns-clause-register g c = c.loop-i.invariant.1
