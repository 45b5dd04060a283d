use Rattle.std.proofs.Common.{◌≡◌, ◌+◌, true, sym, ◌∙◌, subst, arith}
use Rattle.std.proofs.lemmas.Bool.{both_ways}
use Rattle.registers.specs.Meaning.{stands}
use Rattle.walks.specs.Levels.{upto}
use Rattle.bay.specs.FormatSets.{holds}
use Rattle.bay.specs.Tracing.{Clear}
use Rattle.bay.specs.RouteWriters.{SameMemory, slots_of}
use Rattle.bay.proofs.SlotSteps.{Progress, lent_then, progress_passes, progress_more, progress_since, same_number, same_to, written_below}
use Rattle.bay.proofs.RouteSteps.{all_routed, all_noted}
use Rattle.bay.proofs.routes.write_routes.Goals as goal
use Rattle.bay.proofs.routes.write_routes.Goals.{then-holds, else-holds}

pub serve_goal-requires : goal.serve_goal-requires
serve_goal-requires g c =
    let (progress, lent, clear) = c.loop-goal.invariant in
    let n = c.args.n in
    let first = slots_of c.clear.new.self in
    let inside = c.loop-goal-test.true in
    record {
      roomy = c.requires.roomy;
      stand = c.requires.stand;
      ready = record {
        sound = c.requires.sound;
        few = c.requires.roomy.few;
        inside = inside;
        calm = c.requires.calm;
        least = c.requires.least c.loop-goal.goal inside (sym c.holds.ensures ∙ c.if-holds.true);
      };
      legs = written_below n first (slots_of c.loop-goal.writer) progress.written (written_below n _ first c.clear.ensures.written c.requires.legs);
      awaits = λ k l e. progress.later k l (omega arith);
      clear = clear;
    }

pub loop-goal-preserved : goal.loop-goal-preserved
loop-goal-preserved g c =
    let (progress, lent, clear) = c.loop-goal.invariant in
    let K = g.R.Cost.Cost in
    let entry = slots_of c.args.writer.now in
    let first = c.clear.new.self in
    let now = slots_of c.loop-goal.writer in
    let card = upto c.args.n (stands K (g.R.Register.holds c.args.register.now)) in
    elim c.if-holds.branch [
      | then-holds w ↦
          let told = w.serve_goal.ensures in
          subst (λ p. Progress K card (slots_of first) (slots_of p) (c.loop-goal.goal + 1) × SameMemory first p × Clear c.if-holds.sheet) (sym w.writer-is) (
            progress_more K card (slots_of first) now c.loop-goal.goal progress (slots_of w.serve_goal.new.writer) _ told.written told.spares told.served,
            lent_then first c.loop-goal.writer w.serve_goal.new.writer lent told.lent,
            subst Clear (sym w.sheet-is) told.clear,
          )
      | else-holds w ↦
          subst (λ p. Progress K card (slots_of first) (slots_of p) (c.loop-goal.goal + 1) × SameMemory first p × Clear c.if-holds.sheet) (sym w.writer-is) (
            progress_passes K card (slots_of first) now c.loop-goal.goal progress
                (λ k l e.
                (let to_is = sym (same_to (slots_of first) now progress.written k ∙ same_to entry (slots_of first) c.clear.ensures.written k) ∙ e in
                both_ways (holds c.args.goals c.loop-goal.goal) (sym c.holds.ensures ∙ w.if-holds.false)
                (subst (λ t. holds c.args.goals t ≡ true) to_is
                (c.requires.goals k (omega (arith, l, same_number (slots_of first) now progress.written, same_number entry (slots_of first) c.clear.ensures.written)))))),
            lent,
            subst Clear (sym w.sheet-is) clear,
          )
    ]

pub returns : goal.returns
returns g c =
    let K = g.R.Cost.Cost in
    let L = g.met.R.Cost.Cost.lawful in
    let n = c.args.n in
    let (progress, lent, clear) = c.loop-goal.invariant in
    let before = slots_of c.args.writer.now in
    let now = slots_of c.loop-goal.writer in
    let card = upto n (stands K (g.R.Register.holds c.args.register.now)) in
    let end : c.loop-goal.goal ≡ n = omega (arith, c.loop-goal.auto.goal-end, c.loop-goal-test.false) in
    let all : Progress K card before now n =
    subst (Progress K card before now) end
    (progress_since K card before (slots_of c.clear.new.self) now c.loop-goal.goal c.clear.ensures.written progress) in
    record {
      lent = lent_then c.args.writer.now c.clear.new.self c.loop-goal.writer c.clear.ensures.lent lent;
      routed = all_routed K L n card c.requires.sound before now c.requires.legs all;
      chains = all.written.chains;
      costs = all.written.costs;
      legs = same_number before now all.written;
      notes = all_noted K L n card c.requires.sound before now c.requires.legs all;
      clear = clear;
    }
