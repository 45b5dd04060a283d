-- What a fork is owed, from the search and from what was written.
use Rattle.std.proofs.Common.{◌≡◌, ◌*◌, ◌<◌, ◌≤◌, length, None, sym, refl, ◌∙◌, subst, subst₂, inl, inr, arith, MatchOption}
use Rattle.std.proofs.lemmas.Bool.{lt-ltb}
use Rattle.registers.specs.Fault.{first_cause}
use Rattle.registers.specs.Meaning.{meant, most_formats, standing}
use Rattle.walks.specs.Levels.{upto}
use Rattle.walks.specs.Theorems.{Sound}
use Rattle.walks.specs.Walk.{Gains}
use Rattle.bay.specs.Buffers.{Beyond, buffers}
use Rattle.bay.specs.Cells.{Roomy, tabled}
use Rattle.bay.specs.Eliminated.{FirstDone}
use Rattle.bay.specs.FormatSets.{Standing}
use Rattle.bay.specs.Splits.{ForkAnswer, split_causes}
use Rattle.bay.specs.SplitTables.{NoneWritten, SplitWritten}
use Rattle.bay.proofs.Follow.{none_ticked}
use Rattle.bay.proofs.Passes.{beyond_none, beyond_then}
use Rattle.bay.proofs.RouteCall.{cards_upto, loop_in_row}
use Rattle.bay.proofs.SplitCall.{fork_answered, split_enough}
use Rattle.bay.proofs.Turning.{calmed_all}
use Rattle.bay.proofs.splits.fork_over.Goals as goal

pub write_loop-requires-clause-clear : goal.write_loop-requires-clause-clear
write_loop-requires-clause-clear g c = none_ticked most_formats

pub write_loop-requires-clause-row : goal.write_loop-requires-clause-row
write_loop-requires-clause-row g c =
    let b = c.args.branches in
    let enough = split_enough c.size-n.result b.input b.first b.second (length c.args.table.now) (length c.args.costs.now) (length c.args.chains.now) c.in_ok-judge_split.ensures in
    omega (arith, enough.rows)

pub solve_to-requires : goal.solve_to-requires
solve_to-requires g c =
    let t = tabled c.solve.new.cells c.solve.new.there in
    record { roomy = subst (λ n. Roomy g.R.Cost.Cost n t) (sym c.size-n.ensures.value) c.in-NoLoop.ensures.roomy }

pub invariant_of-least : goal.invariant_of-least
invariant_of-least g c =
    let m = meant g.R.Cost.Cost (g.R.Register.holds c.args.register.now) in
    let n = c.size-n.result in
    record {
      roomy = c.solve_to.ensures.roomy;
      stand = subst₂ (λ n f. Standing n f c.solve.new.standing) (sym c.size-n.ensures.value) (sym (cards_upto m n c.size-n.ensures.value)) c.in-NoLoop.ensures.standing;
    }

pub write_split-requires-clause-complete : goal.write_split-requires-clause-complete
write_split-requires-clause-complete g c =
    let K = g.R.Cost.Cost in
    let m = meant K (g.R.Register.holds c.args.register.now) in
    let n = c.size-n.result in
    let told = c.in-NoLoop.ensures in
    let size = sym c.size-n.ensures.value in
    let cards = sym (cards_upto m n c.size-n.ensures.value) in
    let sound = subst₂ (λ n f. Sound K.algebra n f) size cards told.sound in
    let calm = subst (λ f. Gains K.algebra f → ⊥) cards told.solved.0.calm in
    let first = tabled c.solve.new.cells c.solve.new.there in
    let solved = c.solve_to.ensures.least (upto n (standing m)) sound (calmed_all K.algebra (upto n (standing m)) n calm) (subst₂ (λ n f. FirstDone K n f first) size cards told.solved.0.low) in
    record {
      few = omega (arith, c.size-n.ensures.value, c.size-n.ensures.bounds.1);
      sound = sound;
      calm = calm;
      least = λ goal inside. solved goal inside (c.below.ensures goal ∙ lt-ltb goal n inside);
    }

pub write_split-requires-clause-inside : goal.write_split-requires-clause-inside
write_split-requires-clause-inside g c =
    let b = c.args.branches in
    let enough = split_enough c.size-n.result b.input b.first b.second (length c.args.table.now) (length c.args.costs.now) (length c.args.chains.now) c.in_ok-judge_split.ensures in
    (enough.input, enough.first, enough.second)

pub write_split-requires-clause-clear : goal.write_split-requires-clause-clear
write_split-requires-clause-clear g c = none_ticked most_formats

pub returns-in-LoopAt : goal.returns-in-LoopAt
returns-in-LoopAt g c =
    let m = meant g.R.Cost.Cost (g.R.Register.holds c.args.register.now) in
    let n = m.size in
    let size = c.size-n.ensures.value in
    let b = c.args.branches in
    let fine = subst (λ k. None ≡ first_cause (split_causes k b.input b.first b.second (length c.args.table.now) (length c.args.costs.now) (length c.args.chains.now))) size c.in_ok-judge_split.ensures in
    let enough = split_enough n b.input b.first b.second (length c.args.table.now) (length c.args.costs.now) (length c.args.chains.now) fine in
    let told = c.in-LoopAt.ensures in
    let few : n ≤ most_formats = omega (arith, size, c.size-n.ensures.bounds.1) in
    let row = loop_in_row g.met.R.Cost.Cost.lawful (standing m) n told.sound few c.in-LoopAt.h
    c.args.chains.now c.write_loop.new.chains (omega (arith, enough.rows)) c.write_loop.ensures.written in
    record {
      answer = inr (inl (record {
        no_cause = sym fine;
        answers = refl;
        loop = row.0;
        wrote = record {
          table = beyond_then (n * n) c.args.table.now c.solve.new.cells c.write_loop.new.cells told.beyond c.write_loop.ensures.beyond;
          costs = beyond_none 0 c.args.costs.now;
          chains = row.1;
        };
      }));
    }

pub returns-in-NoLoop : goal.returns-in-NoLoop
returns-in-NoLoop g c =
    let K = g.R.Cost.Cost in
    let m = meant K (g.R.Register.holds c.args.register.now) in
    let n = m.size in
    let size = c.size-n.ensures.value in
    let b = c.args.branches in
    let fine = subst (λ k. None ≡ first_cause (split_causes k b.input b.first b.second (length c.args.table.now) (length c.args.costs.now) (length c.args.chains.now))) size c.in_ok-judge_split.ensures in
    let told = c.in-NoLoop.ensures in
    let now = c.write_split.new in
    let cards = cards_upto m c.size-n.result size in
    let table = beyond_then (n * n) c.args.table.now c.solve.new.cells c.solve_to.new.cells told.beyond (subst (λ k. Beyond (k * k) c.solve.new.cells c.solve_to.new.cells) size c.solve_to.ensures.beyond) in
    let written = subst₂ (λ f k. MatchOption c.write_split.result (NoneWritten K f b c.args.costs.now now.costs c.args.chains.now now.chains)
    (λ s. (s < k) × SplitWritten K f b c.args.costs.now now.costs c.args.chains.now now.chains s)) cards size c.write_split.ensures in
    let before = buffers c.args.table.now c.args.costs.now c.args.chains.now in
    let after = buffers c.solve_to.new.cells now.costs now.chains in
    record {
      answer = subst (ForkAnswer K m b.input b.first b.second before after) (sym c.ok_or.ensures.value)
          (fork_answered K m b before after c.write_split.result fine told.solved.0.calm table written);
    }
