-- What is written for a leg is what a route is to find: from a table of least costs for one leg, then goal by goal, and at
-- the end for all legs together.
use Rattle.std.proofs.Common.{◌≡◌, ℕ, ◌<◌, ◌≤◌, cond, ◌⊎◌, List, [], ◌∷◌, map, length, get_or, take, drop, set, Some, None, Option, sym, refl, ap, ◌∙◌, subst, inl, inr, ⊎_elim, arith, MatchOption}
use lib.ListN.{length-map}
use Rattle.std.proofs.lemmas.List.{length-append}
use Rattle.std.proofs.lemmas.Bool.{ne_eqb}
use Rattle.std.specs.List.{All}
use Rattle.costs.specs.declared.Cost.{Ghosts as Kind}
use Rattle.costs.specs.Algebra.{Lawful}
use Rattle.walks.specs.Theorems.{Sound}
use Rattle.bay.specs.Sheet.{put_row, row_at, row_of, most_in_row}
use Rattle.bay.specs.Tracing.{Follows, Leads, Traced}
use Rattle.walks.specs.Walk.{Chain, FromTo, Least, Walk, WalkCosts, cost}
use Rattle.registers.specs.Meaning.{most_formats}
use Rattle.bay.proofs.Follow.{follows_agree, follows_ends}
use Rattle.bay.proofs.Sheets.{chain_leads, chain_of_row, follows_some, leads_few, length_row_of}
use Rattle.bay.specs.Leg.{no_leg, noted}
use Rattle.bay.specs.LegSlots.{Blank, SlotDone, SlotAnswers, LegDone, Slots, LegSlot, SlotsFit, GoalServed, slots, leg_slot}
use Rattle.bay.specs.Plain.{EndsBelow, ends}
use Rattle.bay.specs.Routes.{Agree, HasLeastChain, LeastChains, HasNoChain, no_ends, note_of}
use Rattle.bay.specs.declared.legs.Leg.{Leg}
use Rattle.bay.specs.declared.legs.Note.TheVariants.{NoChain, Chain as ChainOf}
use Rattle.bay.proofs.SlotSteps.{Progress, ends_at, put, put_here, put_other, put_written, same_ends, same_number, written_none}

-- a row determines its formats
pub row_of_same : (fs gs : List ℕ) → row_of fs ≡ row_of gs → fs ≡ gs
row_of_same fs gs e = sym (chain_of_row fs) ∙ ap (λ row. take (get_or row 0 0) (drop 1 row)) e ∙ chain_of_row gs

nil_agrees : (gs : List ℕ) → Agree [] gs
nil_agrees gs m ps bs cs ds e _ = absurd (omega (arith, ap length e, length-append ps (m ∷ bs)))

agrees_nil : (fs : List ℕ) → Agree fs []
agrees_nil fs m ps bs cs ds _ e = absurd (omega (arith, ap length e, length-append cs (m ∷ ds)))

module _ {C : Type 0} (K : Kind C) (L : Lawful K.algebra) (n : ℕ) (card : ℕ → ℕ → Option K.algebra.Value) (sound : Sound K.algebra n card) where
  -- where no walk leads, nothing is to be written
  blank_done : (next : List ℕ) (q : LegSlot C) → Blank K q → ((fs : List ℕ) → FromTo q.leg.from q.leg.to fs → Walk K.algebra card fs → ⊥) → SlotDone K card next q
  blank_done next q b none = record {
    note_is = b.note_is ∙ ap note_of (sym b.row_is);
    found = λ d. inl (record { row_is = b.row_is; costs = b.costs d; no_walk = none });
  }

  -- what `next` leads along, by the least cost to the goal
  abbrev TracedBy : List ℕ → ℕ → ℕ → Option K.algebra.Value → Type 0
  TracedBy next goal v o =
      MatchOption o ((x : K.algebra.Value) → WalkCosts K.algebra card v goal x → ⊥)
      (λ x. (fs : List ℕ) × Chain K.algebra card fs × (cost K.algebra card fs ≡ x) × Follows next goal v fs)

  module _ (next : List ℕ) (p : Slots C) (k : ℕ) (leg : Leg) (is : leg ≡ get_or p.legs k no_leg)
      (dist : ℕ → Option K.algebra.Value) (traced : Traced K.algebra n card dist leg.to next leg.from) where
    -- the leg has no chain, and its leg_slot is left as it is
    pub leg_none : Blank K (leg_slot p k) → None ≡ dist leg.from → LegDone K card next k p p
    leg_none b e =
        let never : TracedBy next leg.to leg.from None = subst (TracedBy next leg.to leg.from) (sym e) traced in
        record {
          written = written_none p;
          others = λ j ne. refl;
          done = blank_done next (leg_slot p k) b
              (subst (λ l. (fs : List ℕ) → FromTo l.from l.to fs → Walk K.algebra card fs → ⊥) is (λ fs ends w. never _ (fs, ends, w, refl)));
        }

    module _ (few : n ≤ most_formats) (inside : leg.to < n) (x : C) (e : Some (K.value x) ≡ dist leg.from) where
      traced_some : TracedBy next leg.to leg.from (Some (K.value x))
      traced_some = subst (TracedBy next leg.to leg.from) (sym e) traced

      pub leg_leads : Leads next leg.to leg.from
      leg_leads = let (fs, chain, costs, follows) = traced_some in chain_leads L n card sound few next leg.to leg.from fs inside chain follows

      -- the row, cost and note of the leg are written
      pub leg_written : Least K.algebra card leg.from leg.to (dist leg.from) → k < length p.legs → SlotsFit p → (count : ℕ) (legs : List Leg) (chains : List ℕ) →
          ((fs : List ℕ) → Follows next leg.to leg.from fs → (count ≡ length fs) × (chains ≡ put_row p.chains k (row_of fs))) →
          legs ≡ set p.legs k (noted (ChainOf count) (get_or p.legs k no_leg)) → LegDone K card next k p (slots legs (set p.costs k x) chains)
      leg_written least here room count legs chains told noted_is =
          let (fs, chain, costs, follows) = traced_some in
          let (counted, row_put) = told fs follows in
          let some = follows_some next leg.to leg.from fs follows in
          let long = length_row_of fs (leads_few most_in_row next leg.to leg.from leg_leads fs follows) in
          let held : Least K.algebra card leg.from leg.to (Some (K.value x)) = subst (Least K.algebra card leg.from leg.to) (sym e) least in
          let q : Slots C = put p k (ChainOf count) (row_of fs) x in
          let same : slots legs (set p.costs k x) chains ≡ q = λ i. slots (noted_is i) (set p.costs k x) (row_put i) in
          let chain_note : ChainOf count ≡ note_of (row_of fs) =
          ap ChainOf counted ∙ ap (λ b. cond b NoChain (ChainOf (length fs))) (sym (ne_eqb (length fs) 0 (λ z. omega (arith, some)))) in
          let done : SlotDone K card next (record { leg = noted (ChainOf count) leg; row = row_of fs; cost = λ _. x }) = record {
            note_is = chain_note;
            found = λ d. inr (
              record {
                formats = fs;
                row_is = refl;
                from_to = follows_ends next leg.to leg.from fs follows;
                chain = chain;
                costs = sym costs;
                least = λ ws ends w. held.1 _ (ws, ends, w, refl);
              },
              follows,
            );
          } in
          subst (LegDone K card next k p) (sym same) (record {
            written = put_written p k here room (ChainOf count) (row_of fs) long x;
            others = put_other p k here room (ChainOf count) (row_of fs) long x;
            done = subst (SlotDone K card next) (sym (put_here p k here room (ChainOf count) (row_of fs) long x))
                (subst (λ l. SlotDone K card next (record { leg = noted (ChainOf count) l; row = row_of fs; cost = λ _. x })) is done);
          })

  -- chains that end in the same format agree from where they meet
  done_agree : (next : List ℕ) (q r : LegSlot C) → SlotDone K card next q → SlotDone K card next r → q.leg.to ≡ r.leg.to → C →
      (fs gs : List ℕ) → q.row ≡ row_of fs → r.row ≡ row_of gs → Agree fs gs
  done_agree next q r a b to_is d fs gs ef eg = go (a.found d) (b.found d)
    where
      go : SlotAnswers K card next q d → SlotAnswers K card next r d → Agree fs gs
      go (inl u) v = subst (λ l. Agree l gs) (row_of_same [] fs (sym u.row_is ∙ ef)) (nil_agrees gs)
      go (inr u) (inl v) = subst (λ l. Agree fs l) (row_of_same [] gs (sym v.row_is ∙ eg)) (agrees_nil fs)
      go (inr (u, f)) (inr (v, h)) =
          let sf = row_of_same u.formats fs (sym u.row_is ∙ ef) in
          let sg = row_of_same v.formats gs (sym v.row_is ∙ eg) in
          λ m ps bs cs ds pf pg.
          follows_agree next q.leg.to q.leg.from r.leg.from fs gs ps m bs cs ds
          (subst (Follows next q.leg.to q.leg.from) sf f)
          (subst (λ t. Follows next t r.leg.from gs) (sym to_is) (subst (Follows next r.leg.to r.leg.from) sg h)) pf pg

  module _ (before now : Slots C) (inside : All (EndsBelow n) (map ends before.legs)) (s : Progress K card before now n) where
    ends_are : (k : ℕ) → ends (get_or now.legs k no_leg) ≡ get_or (map ends before.legs) k no_ends
    ends_are k = ends_at now.legs k ∙ ap (λ l. get_or l k no_ends) s.written.ends_are

    counted : (k : ℕ) → k < length (map ends before.legs) → k < length now.legs
    counted k lt = omega (arith, same_number before now s.written, length-map before.legs ends)

    -- legs to one format are done by one table of next formats
    finished : (k : ℕ) → k < length (map ends before.legs) → (next : List ℕ) × GoalServed K card next (get_or now.legs k no_leg).to now
    finished k lt = s.served _ (subst (λ e. e.to < n) (sym (ends_are k)) (inside k no_ends lt).1)

    pub all_routed : (d : C) → LeastChains K.algebra card (map ends before.legs) (row_at now.chains) (λ k. K.value (get_or now.costs k d))
    all_routed d = record {
      each = λ k lt.
          subst (λ e. HasNoChain K.algebra card e (row_at now.chains k) (K.value (get_or now.costs k d)) ⊎ HasLeastChain K.algebra card e (row_at now.chains k) (K.value (get_or now.costs k d))) (ends_are k)
          (⊎_elim inl (λ r. inr r.0) (((finished k lt).1 k (counted k lt) refl).found d));
      agree = λ j k lj lk same fs gs ef eg.
          let to_is : (get_or now.legs j no_leg).to ≡ (get_or now.legs k no_leg).to = ap (λ e. e.to) (ends_are j) ∙ same ∙ ap (λ e. e.to) (sym (ends_are k)) in
          let (next, done) = finished k lk in
          done_agree next (leg_slot now j) (leg_slot now k) (done j (counted j lj) to_is) (done k (counted k lk) refl) to_is d fs gs ef eg;
    }

    pub all_noted : (k : ℕ) → k < length before.legs → get_or now.legs k no_leg ≡ noted (note_of (row_at now.chains k)) (get_or before.legs k no_leg)
    all_noted k lt =
        let known = same_ends before now s.written k in
        let note = ((finished k (omega (arith, length-map before.legs ends))).1 k (omega (arith, same_number before now s.written)) refl).note_is in
        λ i. record { from = (known i).from; to = (known i).to; note = note i }
