-- The cards up to h are solved to least costs, so the chain back to h can be traced; with h in front it is a loop.
use Rattle.std.proofs.Common.{◌*◌, ◌∷◌, true, false, refl, rules, sym, subst, arith}
use Rattle.std.proofs.lemmas.List.{get_or-replicate}
use Rattle.registers.specs.Meaning.{meant, most_formats}
use Rattle.walks.specs.Walk.{path}
use Rattle.bay.specs.Buffers.{Beyond}
use Rattle.bay.specs.Tracing.{Clear}
use Rattle.walks.proofs.Restrict.{standing_inside}
use Rattle.bay.proofs.PivotSteps.{lent_back}
use Rattle.bay.proofs.Turning.{back_ready, turns_some, turns_loop}
use Rattle.bay.proofs.negative_cycle.write_loop.Goals as goal

pub invariant_of-back : goal.invariant_of-back
invariant_of-back g c =
    let back = c.solve_back.ensures.back in
    let ready = back_ready _ g.met.R.Cost.Cost.lawful _ _ _ _ back in
    record { roomy = back.roomy; stand = c.solve_back.ensures.standing; ready = ∣ ready ∣₁ }

pub trace-requires : goal.trace-requires
trace-requires g c = record { ready = back_ready _ g.met.R.Cost.Cost.lawful _ _ _ _ c.solve_back.ensures.back; clear = subst Clear (sym c.over-ticks.ensures.ticks) c.requires.clear }

pub way_out-from-requires : goal.way_out-from-requires
way_out-from-requires g c =
    let m = meant g.R.Cost.Cost (g.R.Register.holds c.args.register.now) in
    let back = c.solve_back.ensures.back in
    record { back = back; some = turns_some _ g.met.R.Cost.Cost.lawful _ _ _ _ back (λ x e. (standing_inside m c.args.h c.args.h x e).2 refl) c.requires.found.1 }

pub write_round-requires : goal.write_round-requires
write_round-requires g c =
    let back = c.solve_back.ensures.back in
    let loop = turns_loop _ g.met.R.Cost.Cost.lawful _ _ _ _ back c.trace.new.next _ c.way_out-from.ensures (λ v l. c.trace.ensures.traced v l (get_or-replicate most_formats v true false (omega (arith, l, back.roomy.few)))) in
    record { room = c.requires.row; leads = loop.4; inside = omega (arith, back.inside, back.roomy.few) }

pub returns : goal.returns
returns g c =
    let back = c.solve_back.ensures.back in
    let loop = turns_loop _ g.met.R.Cost.Cost.lawful _ _ _ _ back c.trace.new.next _ c.way_out-from.ensures (λ v l. c.trace.ensures.traced v l (get_or-replicate most_formats v true false (omega (arith, l, back.roomy.few)))) in
    let from = c.way_out-from.result in
    record {
      clear = lent_back Clear c.drop-ticks.ensures (search rules);
      beyond = subst (λ k. Beyond (k * k) c.args.cells.now c.solve_back.new.cells) c.size-n.ensures.value c.solve_back.ensures.beyond;
      written = (from ∷ loop.0, loop.1, loop.2, c.write_round.ensures.written (path from loop.0 c.args.h) loop.3);
    }
