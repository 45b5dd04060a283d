-- One leg_slot of a slots is written, and then one after the other: without a chain at first, then all legs to one goal, and so
-- goal by goal.
use Rattle.std.proofs.Common.{◌≡◌, ℕ, zero, suc, ◌+◌, ◌*◌, ◌<◌, ◌≤◌, List, [], ◌∷◌, map, length, get_or, set, Option, sym, refl, ap, ◌∙◌, subst, ⊎_elim, arith, length-set}
use lib.ListN.{length-map}
use Rattle.std.proofs.lemmas.List.Elements.{All-same}
use Rattle.std.proofs.lemmas.List.{get_or_default, get_or_past, get_or-set_same, get_or-set_other, map-set, set-get_or}
use Rattle.std.proofs.lemmas.Bool.{cases_lt, cases_eq}
use Rattle.std.specs.List.{All}
use Rattle.costs.specs.declared.Cost.{Ghosts as Kind}
use Rattle.bay.specs.Sheet.{put_row, row_of, row_bytes}
use Rattle.bay.proofs.Sheets.{length_put_row, length_row_of, row_at_put_row, row_at_put_row_other, get_or_put_row_above}
use Rattle.bay.specs.Leg.{no_leg, noted}
use Rattle.bay.specs.RouteWriters.{SameMemory, slots_of}
use Rattle.bay.specs.declared.writing.RouteWriter.{RouteWriter}
use Rattle.bay.specs.LegSlots.{Blank, SlotDone, EndsIn, Slots, SlotsFit, GoalServed, Spares, Written, slots, leg_slot}
use Rattle.bay.specs.Plain.{EndsBelow, ends}
use Rattle.bay.specs.Routes.{no_ends}
use Rattle.bay.specs.declared.legs.Leg.{Leg}
use Rattle.bay.specs.declared.legs.Note.{Note}
use Rattle.bay.specs.declared.legs.Note.TheVariants.{NoChain}

pub ends_at : (legs : List Leg) (k : ℕ) → ends (get_or legs k no_leg) ≡ get_or (map ends legs) k no_ends
ends_at [] k = refl
ends_at (leg ∷ legs) zero = refl
ends_at (leg ∷ legs) (suc k) = ends_at legs k

-- each leg has the ends that all have
pub leg_below : (n : ℕ) (legs : List Leg) → All (EndsBelow n) (map ends legs) → (k : ℕ) → k < length legs → EndsBelow n (ends (get_or legs k no_leg))
leg_below n legs below k lt = subst (EndsBelow n) (sym (ends_at legs k)) (below k no_ends (omega (arith, length-map legs ends)))

-- memory that is kept twice in a row is kept
pub lent_then : {C : Type 0} (p q r : RouteWriter C) → SameMemory p q → SameMemory q r → SameMemory p r
lent_then p q r a b = (b.0 ∙ a.0, b.1 ∙ a.1, b.2 ∙ a.2)

-- a slots that is lent has room
pub lent_room : {C : Type 0} (p : RouteWriter C) → SlotsFit (slots_of p)
lent_room p = record { entries = p.entries; rows = p.rows }

-- lists of one length that agree at a leg_slot do so at any default
any_default : (xs ys : List ℕ) → length xs ≡ length ys → (j d : ℕ) → get_or xs j 0 ≡ get_or ys j 0 → get_or xs j d ≡ get_or ys j d
any_default xs ys long j d e =
    ⊎_elim
    (λ lt. get_or_default xs j d 0 lt ∙ e ∙ get_or_default ys j 0 d (omega arith))
    (λ le. get_or_past xs j d le ∙ sym (get_or_past ys j d (omega arith)))
    (cases_lt j (length xs))

-- the slots with another note, row and cost at leg_slot k
abbrev pub put : {C : Type 0} → Slots C → ℕ → Note → List ℕ → C → Slots C
put p k note row x = slots (set p.legs k (noted note (get_or p.legs k no_leg))) (set p.costs k x) (put_row p.chains k row)

module _ {C : Type 0} (p : Slots C) (k : ℕ) (inside : k < length p.legs) (room : SlotsFit p) where
  pub row_room : row_bytes * k + row_bytes ≤ length p.chains
  row_room = omega (arith, room.rows)

  pub entry_room : k < length p.costs
  entry_room = omega (arith, room.entries)

  module _ (note : Note) (row : List ℕ) (long : length row ≡ row_bytes) (x : C) where
    pub put_written : Written p (put p k note row x)
    put_written = record {
      ends_are = map-set ends p.legs k _ ∙ ap (set (map ends p.legs) k) (ends_at p.legs k) ∙ set-get_or (map ends p.legs) k no_ends;
      costs = record { long = length-set p.costs k x; same = λ j d le. get_or-set_other p.costs k j x d (λ e. omega arith) };
      chains = record {
        long = length_put_row p.chains k row row_room long;
        same = λ j d le.
            any_default (put_row p.chains k row) p.chains (length_put_row p.chains k row row_room long) j d
            (get_or_put_row_above p.chains k row row_room long j (omega arith));
      };
    }

    pub put_here : leg_slot (put p k note row x) k ≡ record { leg = noted note (get_or p.legs k no_leg); row = row; cost = λ _. x }
    put_here i = record {
      leg = get_or-set_same p.legs k (noted note (get_or p.legs k no_leg)) no_leg inside i;
      row = row_at_put_row p.chains k row row_room long i;
      cost = λ d. get_or-set_same p.costs k x d entry_room i;
    }

    pub put_other : (j : ℕ) → (j ≡ k → ⊥) → leg_slot (put p k note row x) j ≡ leg_slot p j
    put_other j ne i = record {
      leg = get_or-set_other p.legs k j (noted note (get_or p.legs k no_leg)) no_leg ne i;
      row = row_at_put_row_other p.chains k row row_room long j ne i;
      cost = λ d. get_or-set_other p.costs k j x d ne i;
    }

pub written_none : {C : Type 0} (p : Slots C) → Written p p
written_none p = record { ends_are = refl; costs = record { long = refl; same = λ k d le. refl }; chains = record { long = refl; same = λ k d le. refl } }

module _ {C : Type 0} (p q : Slots C) (w : Written p q) where
  pub same_number : length q.legs ≡ length p.legs
  same_number = sym (length-map q.legs ends) ∙ ap length w.ends_are ∙ length-map p.legs ends

  pub same_ends : (k : ℕ) → ends (get_or q.legs k no_leg) ≡ ends (get_or p.legs k no_leg)
  same_ends k = ends_at q.legs k ∙ ap (λ l. get_or l k no_ends) w.ends_are ∙ sym (ends_at p.legs k)

  pub same_to : (k : ℕ) → (get_or q.legs k no_leg).to ≡ (get_or p.legs k no_leg).to
  same_to k = ap (λ e. e.to) (same_ends k)

  pub written_then : (r : Slots C) → Written q r → Written p r
  written_then r v = record {
    ends_are = v.ends_are ∙ w.ends_are;
    costs = record { long = v.costs.long ∙ w.costs.long; same = λ k d le. v.costs.same k d (omega (arith, same_number)) ∙ w.costs.same k d le };
    chains = record { long = v.chains.long ∙ w.chains.long; same = λ k d le. v.chains.same k d (omega (arith, same_number)) ∙ w.chains.same k d le };
  }

-- the ends are the same, so they are formats still
pub written_below : {C : Type 0} (n : ℕ) (p q : Slots C) → Written p q → All (EndsBelow n) (map ends p.legs) → All (EndsBelow n) (map ends q.legs)
written_below n p q w below = All-same (EndsBelow n) (map ends q.legs) (map ends p.legs) w.ends_are below

module _ {C : Type 0} (K : Kind C) where
  -- the first i legs have no chain
  abbrev pub Cleared : Slots C → Slots C → ℕ → Type 0
  Cleared before now i = Written before now × ((k : ℕ) → k < i → Blank K (leg_slot now k))

  pub cleared_more : (before p : Slots C) (i : ℕ) → i < length p.legs → SlotsFit p → Cleared before p i → (x : C) → K.value x ≡ K.algebra.unit → (legs : List Leg) (chains : List ℕ) →
      legs ≡ set p.legs i (noted NoChain (get_or p.legs i no_leg)) → chains ≡ put_row p.chains i (row_of []) → Cleared before (slots legs (set p.costs i x) chains) (i + 1)
  cleared_more before p i inside room (w, done) x unit legs chains el ec =
      let q : Slots C = put p i NoChain (row_of []) x in
      let long = length_row_of [] (omega arith) in
      let blank : (k : ℕ) → k < i + 1 → Blank K (leg_slot q k) =
      λ k lt. ⊎_elim
      (λ e. subst (λ j. Blank K (leg_slot q j)) (sym e)
      (subst (Blank K) (sym (put_here p i inside room NoChain (row_of []) long x)) (record { note_is = refl; row_is = refl; costs = λ d. unit })))
      (λ ne. subst (Blank K) (sym (put_other p i inside room NoChain (row_of []) long x k ne)) (done k (omega arith)))
      (cases_eq k i) in
      let same : slots legs (set p.costs i x) chains ≡ q = λ j. slots (el j) (set p.costs i x) (ec j) in
      subst (λ r. Cleared before r (i + 1)) (sym same) (written_then before p w q (put_written p i inside room NoChain (row_of []) long x), blank)

  module _ (card : ℕ → ℕ → Option K.algebra.Value) where
    -- of the legs to the goal the first i are done, and all other places are as they were
    pub record Serving (next : List ℕ) (goal : ℕ) (before now : Slots C) (i : ℕ) : Type 0 where
      pub written : Written before now
      pub onward : (k : ℕ) → i ≤ k → leg_slot now k ≡ leg_slot before k
      pub spares : Spares goal before now
      pub done : (k : ℕ) → k < i → EndsIn now k goal → SlotDone K card next (leg_slot now k)

    module _ (next : List ℕ) (goal : ℕ) (before now : Slots C) (i : ℕ) (s : Serving next goal before now i) where
      pub serving_passes : (EndsIn now i goal → ⊥) → Serving next goal before now (i + 1)
      serving_passes ne = record {
        written = s.written;
        onward = λ k le. s.onward k (omega arith);
        spares = s.spares;
        done = λ k lt e. ⊎_elim (λ is. absurd (ne (ap (λ j. (get_or now.legs j no_leg).to) (sym is) ∙ e))) (λ other. s.done k (omega arith) e) (cases_eq k i);
      }

      pub serving_more : (q : Slots C) → EndsIn now i goal → Written now q → ((j : ℕ) → (j ≡ i → ⊥) → leg_slot q j ≡ leg_slot now j) → SlotDone K card next (leg_slot q i) →
          Serving next goal before q (i + 1)
      serving_more q here w others fresh = record {
        written = written_then before now s.written q w;
        onward = λ k le. others k (omega arith) ∙ s.onward k (omega arith);
        spares = λ k ne. ⊎_elim
            (λ is. absurd (ne (ap (λ j. (get_or before.legs j no_leg).to) is ∙ sym (same_to before now s.written i) ∙ here)))
            (λ other. others k other ∙ s.spares k ne)
            (cases_eq k i);
        done = λ k lt e. ⊎_elim
            (λ is. subst (λ j. SlotDone K card next (leg_slot q j)) (sym is) fresh)
            (λ other. subst (SlotDone K card next) (sym (others k other)) (s.done k (omega arith) (ap (λ r. r.leg.to) (sym (others k other)) ∙ e)))
            (cases_eq k i);
      }

    -- every leg to a goal below the given one is done, and no other has a chain yet
    pub record Progress (before now : Slots C) (goal : ℕ) : Type 0 where
      pub written : Written before now
      pub later : (k : ℕ) → k < length now.legs → goal ≤ (get_or now.legs k no_leg).to → Blank K (leg_slot now k)
      pub served : (t : ℕ) → t < goal → (next : List ℕ) × GoalServed K card next t now

    -- what was written before the first goal counts too
    pub progress_since : (p before now : Slots C) (goal : ℕ) → Written p before → Progress before now goal → Progress p now goal
    progress_since p before now goal w s = record { written = written_then p before w now s.written; later = s.later; served = s.served }

    module _ (before now : Slots C) (goal : ℕ) (s : Progress before now goal) where
      -- no leg ends in the goal
      pub progress_passes : ((k : ℕ) → k < length now.legs → EndsIn now k goal → ⊥) → Progress before now (goal + 1)
      progress_passes none = record {
        written = s.written;
        later = λ k lt le. s.later k lt (omega arith);
        served = λ t lt. ⊎_elim (λ is. ([], λ k l e. absurd (none k l (e ∙ is)))) (λ other. s.served t (omega arith)) (cases_eq t goal);
      }

      pub progress_more : (q : Slots C) (next : List ℕ) → Written now q → Spares goal now q → GoalServed K card next goal q → Progress before q (goal + 1)
      progress_more q next w spared done = record {
        written = written_then before now s.written q w;
        later = λ k lt le.
            let to_is = same_to now q w k in
            subst (Blank K) (sym (spared k (λ e. omega arith))) (s.later k (omega (arith, same_number now q w)) (omega arith));
        served = λ t lt. ⊎_elim
            (λ is. (next, subst (λ g. GoalServed K card next g q) (sym is) done))
            (λ other.
            let (old, had) = s.served t (omega arith) in (
              old,
              λ k l e.
                  let ended : EndsIn now k t = sym (same_to now q w k) ∙ e in
                  subst (SlotDone K card old) (sym (spared k (λ z. other (sym ended ∙ z)))) (had k (omega (arith, same_number now q w)) ended),
            ))
            (cases_eq t goal);
      }
