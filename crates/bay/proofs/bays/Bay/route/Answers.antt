-- What the route call is owed, from the search and from what was written.
use Rattle.std.proofs.Common.{◌≡◌, ℕ, ◌*◌, ◌<◌, ◌≤◌, List, map, length, get_or, Ok, sym, refl, ap, ◌∙◌, subst, subst₂, inl, inr, arith, rules}
use lib.ListN.{length-map}
use Rattle.std.specs.List.{All}
use Rattle.registers.specs.Meaning.{most_formats, standing}
use Rattle.bay.specs.Bays.{legs, plain}
use Rattle.bay.specs.Buffers.{Beyond, buffers}
use Rattle.bay.specs.Cells.{Roomy, tabled}
use Rattle.bay.specs.Eliminated.{FirstDone}
use Rattle.bay.specs.FormatSets.{Standing}
use Rattle.bay.specs.RouteWriters.{slots_of}
use Rattle.walks.specs.Levels.{upto}
use Rattle.walks.specs.Theorems.{Sound}
use Rattle.walks.specs.Walk.{Gains}
use Rattle.std.proofs.lemmas.List.Elements.{All-weaker}
use Rattle.bay.proofs.Turning.{calmed_all}
use Rattle.bay.specs.Legs.{booked}
use Rattle.bay.specs.Plain.{EndsBelow, ends}
use Rattle.bay.specs.Leg.{no_leg, noted}
use Rattle.bay.specs.Routes.{LeastChains, note_of}
use Rattle.bay.specs.declared.legs.Leg.{Leg}
use Rattle.bay.specs.Routing.{Granted, RouteAnswer}
use Rattle.bay.specs.Sheet.{row_at, row_bytes}
use Rattle.bay.proofs.Follow.{none_ticked}
use Rattle.bay.proofs.Granted.{ends_opened, inside_same}
use Rattle.bay.proofs.Passes.{beyond_then}
use Rattle.bay.proofs.PivotSteps.{lent_back}
use Rattle.bay.proofs.RouteCall.{cards_upto, ends_noted, loop_in_row, noted_all, room_enough}
use Rattle.bay.proofs.bays.Bay.route.Goals as goal

pub write_loop-requires-clause-clear : goal.write_loop-requires-clause-clear
write_loop-requires-clause-clear g c = none_ticked most_formats

pub invariant_of-writer : goal.invariant_of-writer
invariant_of-writer g c =
    let p = plain c.args.self.now in
    let enough = room_enough (length p.legs) p.register.size (length c.args.table.now) (length c.args.costs.now) (length c.args.chains.now) c.in_ok-judge_route.ensures in
    let count = length-map (legs c.args.self.now) ends in
    record { entries = omega (arith, enough.costs, count); rows = omega (arith, enough.rows, count) }

pub goals-goals-requires : goal.goals-goals-requires
goals-goals-requires g c =
    All-weaker (EndsBelow (plain c.args.self.now).register.size) (EndsBelow most_formats)
    (λ e below. (omega (arith, below.0, c.size-n.ensures.value, c.size-n.ensures.bounds.1), omega (arith, below.1, c.size-n.ensures.value, c.size-n.ensures.bounds.1))) _ c.args.self.now.inside

pub solve_to-requires : goal.solve_to-requires
solve_to-requires g c =
    let t = tabled c.solve.new.cells c.solve.new.there in
    record { roomy = subst (λ n. Roomy g.R.Cost.Cost n t) (sym c.size-n.ensures.value) c.in-NoLoop.ensures.roomy }

pub write_routes-requires : goal.write_routes-requires
write_routes-requires g c =
    let K = g.R.Cost.Cost in
    let m = (plain c.args.self.now).register in
    let n = c.size-n.result in
    let told = c.in-NoLoop.ensures in
    let size = sym c.size-n.ensures.value in
    let cards = sym (cards_upto m n c.size-n.ensures.value) in
    let sound = subst₂ (λ n f. Sound K.algebra n f) size cards told.sound in
    let calm = subst (λ f. Gains K.algebra f → ⊥) cards told.solved.0.calm in
    let first = tabled c.solve.new.cells c.solve.new.there in
    record {
      roomy = c.solve_to.ensures.roomy;
      stand = subst₂ (λ n f. Standing n f c.solve.new.standing) size cards told.standing;
      sound = sound;
      calm = calm;
      legs = inside_same _ _ _ _ c.size-n.ensures.value refl c.args.self.now.inside;
      goals = c.goals-goals.ensures.each;
      least = c.solve_to.ensures.least (upto n (standing m)) sound (calmed_all K.algebra (upto n (standing m)) n calm) (subst₂ (λ n f. FirstDone K n f first) size cards told.solved.0.low);
      clear = none_ticked most_formats;
    }

pub invariant_of-self : goal.invariant_of-self
invariant_of-self g c = record { inside = inside_same _ _ _ _ refl (ap (map ends) c.open_all.ensures ∙ ends_opened (legs c.args.self.now)) c.args.self.now.inside }

-- the route leaves the legs' ends as they were
ends_left : (n : ℕ) (was now : List Leg) (row : ℕ → List ℕ) → length now ≡ length was → ((k : ℕ) → k < length was → get_or now k no_leg ≡ noted (note_of (row k)) (get_or was k no_leg)) →
    All (EndsBelow n) (map ends was) → All (EndsBelow n) (map ends now)
ends_left n was now row long notes inside = inside_same _ _ _ _ refl (ap (map ends) (noted_all row was now long notes) ∙ ends_noted 0 row was) inside

pub invariant_of-self-in-NoLoop : goal.invariant_of-self-in-NoLoop
invariant_of-self-in-NoLoop g c =
    let was = legs c.args.self.now in
    let now = slots_of c.write_routes.new.writer in
    let wrote = c.write_routes.ensures in
    let n = (plain c.args.self.now).register.size in
    record {
      inside = lent_back (λ l. All (EndsBelow n) (map ends (booked l))) {x = c.write_routes.new.writer.legs.now} {x' = c.drop-writer.new.self.0}
          (ends_left n was now.legs (row_at now.chains) wrote.legs wrote.notes c.args.self.now.inside) (search rules);
    }

pub returns-in-LoopAt : goal.returns-in-LoopAt
returns-in-LoopAt g c =
    let p = plain c.args.self.now in
    let n = p.register.size in
    let enough = room_enough (length p.legs) n (length c.args.table.now) (length c.args.costs.now) (length c.args.chains.now) c.in_ok-judge_route.ensures in
    let told = c.in-LoopAt.ensures in
    let few : n ≤ most_formats = omega (arith, c.size-n.ensures.value, c.size-n.ensures.bounds.1) in
    let row = loop_in_row g.met.R.Cost.Cost.lawful (standing p.register) n told.sound few c.in-LoopAt.h
    c.args.chains.now c.write_loop.new.chains (omega (arith, enough.rows, enough.some)) c.write_loop.ensures.written in
    record {
      answer = inr (inl (record {
        no_cause = sym c.in_ok-judge_route.ensures;
        answers = refl;
        loop = row.0;
        notes = c.open_all.ensures;
        wrote = record {
          table = beyond_then (n * n) c.args.table.now c.solve.new.cells c.write_loop.new.cells told.beyond c.write_loop.ensures.beyond;
          costs = record { long = refl; same = λ k d h. refl };
          chains = row.1;
        };
      }));
      same = λ i. record { register = p.register; legs = (ap (map ends) c.open_all.ensures ∙ ends_opened (legs c.args.self.now)) i };
      register = refl;
    }

-- what is known of a page's sheets holds of what was lent for them
slots_back : {X Y Z : Type 0} (P : X → Y → Z → Type 0) {x x' : X} {y y' : Y} {z z' : Z} → P x y z → x' ≡ x → y' ≡ y → z' ≡ z → P x' y' z'
slots_back P {x' = x'} {y' = y'} {z = z} p e f k = subst (P x' y') (sym k) (subst₂ (λ x y. P x y z) (sym e) (sym f) p)

pub returns-in-NoLoop : goal.returns-in-NoLoop
returns-in-NoLoop g c =
    let was = legs c.args.self.now in
    let now = slots_of c.write_routes.new.writer in
    let K = g.R.Cost.Cost in
    let p = plain c.args.self.now in
    let n = p.register.size in
    let before = buffers c.args.table.now c.args.costs.now c.args.chains.now in
    let told = c.in-NoLoop.ensures in
    let wrote = c.write_routes.ensures in
    let count = sym (length-map was ends) in
    let cards = cards_upto p.register c.size-n.result c.size-n.ensures.value in
    let noted = noted_all (row_at now.chains) was now.legs wrote.legs wrote.notes in
    let granted : Granted p was now.legs before (buffers c.solve_to.new.cells now.costs now.chains) (Ok c.len-routed.result) = record {
      no_cause = sym c.in_ok-judge_route.ensures;
      answers = ap Ok (c.len-routed.ensures.value ∙ count);
      no_loop = told.solved.0.calm;
      routed = λ d. subst (λ k. LeastChains K.algebra k p.legs (row_at now.chains) (λ j. K.value (get_or now.costs j d))) cards (wrote.routed d);
      notes = noted;
      wrote = record {
        table = beyond_then (n * n) c.args.table.now c.solve.new.cells c.solve_to.new.cells told.beyond (subst (λ k. Beyond (k * k) c.solve.new.cells c.solve_to.new.cells) c.size-n.ensures.value c.solve_to.ensures.beyond);
        costs = subst (λ k. Beyond k c.args.costs.now now.costs) count wrote.costs;
        chains = subst (λ k. Beyond (row_bytes * k) c.args.chains.now now.chains) count wrote.chains;
      };
    } in
    record {
      answer = slots_back (λ l costs chains. RouteAnswer p was (booked l) before (buffers c.solve_to.new.cells costs chains) (Ok c.len-routed.result)) {x = c.write_routes.new.writer.legs.now} {x' = c.drop-writer.new.self.0} (inr (inr granted)) (search rules) (search rules) (search rules);
      same = lent_back (λ l. record { register = p.register; legs = map ends (booked l) } ≡ p) {x = c.write_routes.new.writer.legs.now} {x' = c.drop-writer.new.self.0} (λ i. record { register = p.register; legs = (ap (map ends) noted ∙ ends_noted 0 (row_at now.chains) was) i }) (search rules);
      register = refl;
    }
