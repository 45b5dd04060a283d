-- One row by way of a pivot: what is filled and what is improved make one pass over it.
use Rattle.std.proofs.Common.{◌≡◌, ℕ, suc, ◌+◌, ◌-◌, ◌*◌, ◌<◌, ◌≤◌, not, ◌&&◌, ◌||◌, ◌⊎◌, Bool, true, false, List, get_or, set, Some, None, Option, sym, refl, ap, ◌∙◌, subst, subst₂, inl, inr, arith}
use mathlib.Core.Path.{subst₃}
use Rattle.std.proofs.lemmas.List.{length-set, get_or-set_same, get_or-set_other}
use Rattle.std.proofs.lemmas.Nat.{mul-add-lt}
use Rattle.std.proofs.lemmas.Bool.{cases_eq, cases_lt, cases_Bool, both_ways}
use Rattle.costs.specs.declared.Cost.{Ghosts as Kind}
use Rattle.costs.specs.Algebra.{IsJoin, Lawful, reach}
use Rattle.registers.specs.Meaning.{most_formats}
use Rattle.walks.specs.Walk.{LeastOf}
use Rattle.walks.specs.Theorems.{Either}
use Rattle.walks.proofs.Least.{either_new, either_better, either_kept}
use Rattle.bay.specs.Buffers.{Beyond}
use Rattle.bay.specs.Cells.{Table, tabled, meaning_at, least_in}
use Rattle.bay.specs.Eliminated.{InRow, NearBy, Picked, RowReady, Spans, Improved}
use Rattle.bay.specs.FormatSets.{holds, no_formats}
use Rattle.bay.specs.declared.cells.Cell.{Cell}
use Rattle.bay.specs.declared.elimination.Via.{Via}
use Rattle.bay.specs.declared.sets.FormatSet.{FormatSet}
use Rattle.bay.proofs.Passes.{beyond_then, least_there, least_none, least_alike}

-- a place of another row
pub apart_rows : (n a w s t : ℕ) → w < n → t < n → (a ≡ s → ⊥) → a * n + w ≡ s * n + t → ⊥
apart_rows n a w s t lw lt ne e = go (cases_lt a s)
  where
    go : (a < s) ⊎ (s ≤ a) → ⊥
    go (inl l) = let under = mul-add-lt a n w s l lw in omega (arith, under, e)
    go (inr g) = let under = mul-add-lt s n t a (omega arith) lt in omega (arith, under, e)

pub outside_row : (n a w s low high : ℕ) → w < n → high ≤ n → (a ≡ s → ⊥) → (a * n + w < s * n + low) ⊎ (s * n + high ≤ a * n + w)
outside_row n a w s low high lw lh ne = elim (cases_lt a s) [
  | inl l ↦ let under = mul-add-lt a n w s l lw in inl (omega (arith, under))
  | inr g ↦ let under = mul-add-lt s n (n - 1) a (omega arith) (omega arith) in inr (omega (arith, under))
]

-- what is reached and has no cost yet lies inside the row
pub fresh_inside : (n : ℕ) (via : Via) (fresh was : FormatSet) → Spans n via → ((f : ℕ) → f < most_formats → holds fresh f ≡ (holds via.reached f && not (holds was f))) →
    ((f : ℕ) → most_formats ≤ f → holds fresh f ≡ false) → (w : ℕ) → holds fresh w ≡ true → (w < n) × (holds via.reached w ≡ true) × (holds was w ≡ false)
fresh_inside n via fresh was spans fresh_is fresh_less w h = elim (cases_lt w most_formats) [
  | inl l ↦
      let (r, o) = parts (holds via.reached w) (holds was w) (sym (fresh_is w l) ∙ h) in
      let span = spans.span w r in
      (omega (arith, span.1, spans.inside.1), r, o)
  | inr g ↦ absurd (both_ways _ (fresh_less w g) h)
]
  where
    parts : (a b : Bool) → (a && not b) ≡ true → (a ≡ true) × (b ≡ false)
    parts true false e = (refl, refl)
    parts true true e = absurd (both_ways _ refl e)
    parts false b e = absurd (both_ways _ refl e)

module _ {C : Type 0} (K : Kind C) (L : Lawful K.algebra) (n s : ℕ) (via : Via) (t : Table C) (middle last : List (Cell C)) (fresh row : FormatSet) (held : C)
    (ready : RowReady K n s via t)
    (has : holds (get_or t.there s no_formats) via.at ≡ true)
    (held_is : K.value held ≡ meaning_at K t.cells (s * n + via.at))
    (fresh_is : (f : ℕ) → f < most_formats → holds fresh f ≡ (holds via.reached f && not (holds (get_or t.there s no_formats) f)))
    (fresh_less : (f : ℕ) → most_formats ≤ f → holds fresh f ≡ false)
    (row_is : (f : ℕ) → holds row f ≡ (holds (get_or t.there s no_formats) f || holds via.reached f))
    (filled_beyond : Beyond (n * n) t.cells middle)
    (filled_others : (k : ℕ) → ((w : ℕ) → holds fresh w ≡ true → k ≡ s * n + w → ⊥) → meaning_at K middle k ≡ meaning_at K t.cells k)
    (filled : (w : ℕ) → holds fresh w ≡ true → IsJoin K.algebra (K.value held) (meaning_at K t.cells (via.at * n + w)) (meaning_at K middle (s * n + w)))
    (better_beyond : Beyond (n * n) middle last)
    (better_others : (k : ℕ) → (k < s * n + via.low) ⊎ (s * n + via.high ≤ k) → meaning_at K last k ≡ meaning_at K middle k)
    (better : (w : ℕ) → via.low ≤ w → w < via.high → Picked K.algebra (get_or via.marks w false) (K.value held) (meaning_at K middle (via.at * n + w)) (meaning_at K middle (s * n + w)) (meaning_at K last (s * n + w)))
  where
    abbrev exit : Table C
    exit = tabled last (set t.there s row)

    abbrev was : FormatSet
    was = get_or t.there s no_formats

    few : n ≤ most_formats
    few = ready.roomy.few

    within : (w : ℕ) → holds via.reached w ≡ true → w < n
    within w h = let span = ready.spans.span w h in omega (arith, span.1, ready.spans.inside.1)

    fresh_within : (w : ℕ) → holds fresh w ≡ true → (w < n) × (holds via.reached w ≡ true) × (holds was w ≡ false)
    fresh_within = fresh_inside n via fresh was ready.spans fresh_is fresh_less

    -- the pivot's row stays
    pivot_still : (w : ℕ) → w < n → meaning_at K middle (via.at * n + w) ≡ meaning_at K t.cells (via.at * n + w)
    pivot_still w l = filled_others (via.at * n + w) (λ f h e. apart_rows n via.at w s f l (fresh_within f h).0 (λ d. ready.inside.2 (sym d)) e)

    set_here : get_or (set t.there s row) s no_formats ≡ row
    set_here = get_or-set_same t.there s row no_formats (omega (arith, ready.roomy.there, ready.inside.0, few))

    set_there : (a : ℕ) → (a ≡ s → ⊥) → get_or (set t.there s row) a no_formats ≡ get_or t.there a no_formats
    set_there a ne = get_or-set_other t.there s a row no_formats ne

    -- another row stays
    other_row : (a w : ℕ) → a < n → w < n → (a ≡ s → ⊥) → least_in K n exit a w ≡ least_in K n t a w
    other_row a w la lw ne =
        least_alike K n exit t a w a w (ap (λ x. holds x w) (set_there a ne))
        (better_others (a * n + w) (outside_row n a w s via.low via.high lw ready.spans.inside.1 ne) ∙
        filled_others (a * n + w) (λ f h e. apart_rows n a w s f lw (fresh_within f h).0 ne e))

    -- what is not reached stays
    not_reached : (w : ℕ) → w < n → holds via.reached w ≡ false → least_in K n exit s w ≡ least_in K n t s w
    not_reached w l h =
        least_alike K n exit t s w s w (ap (λ x. holds x w) set_here ∙ row_is w ∙ same (holds was w) (holds via.reached w) h)
        (kept (cases_lt w via.low) (cases_lt w via.high) ∙ filled_others (s * n + w) (λ f g e. both_ways _ h (subst (λ x. holds via.reached x ≡ true) (place f e) (fresh_within f g).1)))
      where
        same : (a b : Bool) → b ≡ false → (a || b) ≡ a
        same true b e = refl
        same false b e = e

        place : (f : ℕ) → s * n + w ≡ s * n + f → f ≡ w
        place f e = omega arith

        kept : (w < via.low) ⊎ (via.low ≤ w) → (w < via.high) ⊎ (via.high ≤ w) → meaning_at K last (s * n + w) ≡ meaning_at K middle (s * n + w)
        kept (inl b) c = better_others (s * n + w) (inl (omega arith))
        kept (inr b) (inr c) = better_others (s * n + w) (inr (omega arith))
        kept (inr b) (inl c) = (better w b c).stays (ready.spans.marks w (omega (arith, l, few)) ∙ h)

    -- what is reached is improved
    reached : NearBy K n s via t → (2 * (n + 1) ≤ reach) → (w : ℕ) → holds via.reached w ≡ true →
        LeastOf K.algebra (Either K.algebra (least_in K n t s w) (least_in K n t s via.at) (least_in K n t via.at w)) (least_in K n exit s w)
    reached near small w h = go (cases_Bool (holds was w))
      where
        l : w < n
        l = within w h

        a : K.algebra.Value
        a = K.value held

        b : K.algebra.Value
        b = meaning_at K t.cells (via.at * n + w)

        y : K.algebra.Value
        y = meaning_at K last (s * n + w)

        first : least_in K n t s via.at ≡ Some a
        first = least_there K n t s via.at has ∙ ap Some (sym held_is)

        second : least_in K n t via.at w ≡ Some b
        second = least_there K n t via.at w (ready.reached w h).1

        exact : (z : K.algebra.Value) → IsJoin K.algebra a b z → z ≡ K.algebra.join a b
        exact z is = is (suc n) (suc n) (omega arith) (near.0 a first) (near.1 w h b second)

        now : least_in K n exit s w ≡ Some y
        now = least_there K n exit s w (ap (λ x. holds x w) set_here ∙ row_is w ∙ joined (holds was w) (holds via.reached w) h)
          where
            joined : (a b : Bool) → b ≡ true → (a || b) ≡ true
            joined true b e = refl
            joined false b e = e

        picked : (z : K.algebra.Value) × IsJoin K.algebra a b z × ((K.algebra.Under z (meaning_at K middle (s * n + w)) × (y ≡ z)) ⊎ ((K.algebra.Under z (meaning_at K middle (s * n + w)) → ⊥) × (y ≡ meaning_at K middle (s * n + w))))
        picked =
            let span = ready.spans.span w h in
            let p = (better w span.0 span.1).better (ready.spans.marks w (omega (arith, l, few)) ∙ h) in
            (p.0, subst (λ x. IsJoin K.algebra a x p.0) (pivot_still w l) p.1, p.2)

        ends : (o : Option K.algebra.Value) → least_in K n t s w ≡ o → LeastOf K.algebra (Either K.algebra o (Some a) (Some b)) (Some y) →
            LeastOf K.algebra (Either K.algebra (least_in K n t s w) (least_in K n t s via.at) (least_in K n t via.at w)) (least_in K n exit s w)
        ends o eo best =
            subst (LeastOf K.algebra (Either K.algebra (least_in K n t s w) (least_in K n t s via.at) (least_in K n t via.at w))) (sym now)
            (subst₃ (λ o p q. LeastOf K.algebra (Either K.algebra o p q) (Some y)) (sym eo) (sym first) (sym second) best)

        go : (holds was w ≡ true) ⊎ (holds was w ≡ false) → LeastOf K.algebra (Either K.algebra (least_in K n t s w) (least_in K n t s via.at) (least_in K n t via.at w)) (least_in K n exit s w)
        go (inl e) =
            let x = meaning_at K t.cells (s * n + w) in
            let still : meaning_at K middle (s * n + w) ≡ x = filled_others (s * n + w) (λ f g d. both_ways _ (fresh_within f g).2 (subst (λ v. holds was v ≡ true) (omega arith) e)) in
            let (z, is, cases) = picked in
            let z_is = exact z is in
            ends (Some x) (least_there K n t s w e) (elim cases [
              | inl better ↦ subst (λ v. LeastOf K.algebra (Either K.algebra (Some x) (Some a) (Some b)) (Some v)) (sym (better.1 ∙ z_is))
                  (either_better L (Some x) (Some a) (Some b) x a b refl refl refl (subst₂ K.algebra.Under z_is still better.0))
              | inr worse ↦ subst (λ v. LeastOf K.algebra (Either K.algebra (Some x) (Some a) (Some b)) (Some v)) (sym (worse.1 ∙ still))
                  (either_kept L (Some x) (Some a) (Some b) x a b refl refl refl (subst₂ (λ u v. K.algebra.Under u v → ⊥) z_is still worse.0))
            ])
        go (inr e) =
            let is_fresh : holds fresh w ≡ true = fresh_is w (omega (arith, l, few)) ∙ both (holds via.reached w) (holds was w) h e in
            let x_is = exact (meaning_at K middle (s * n + w)) (filled w is_fresh) in
            let (z, is, cases) = picked in
            let y_is : y ≡ K.algebra.join a b = elim cases [ inl better ↦ better.1 ∙ exact z is | inr worse ↦ worse.1 ∙ x_is ] in
            ends None (least_none K n t s w e) (subst (λ v. LeastOf K.algebra (Either K.algebra None (Some a) (Some b)) (Some v)) (sym y_is) (either_new L None (Some a) (Some b) a b refl refl refl))
          where
            both : (p q : Bool) → p ≡ true → q ≡ false → (p && not q) ≡ true
            both p q ep eq = subst₂ (λ p q. (p && not q) ≡ true) (sym ep) (sym eq) refl

    pub row_improved : NearBy K n s via t → (2 * (n + 1) ≤ reach) → Improved K n via.at (InRow s via.reached) t exit
    row_improved near small = record {
      hit = λ a w la lw h. subst (λ a. LeastOf K.algebra (Either K.algebra (least_in K n t a w) (least_in K n t a via.at) (least_in K n t via.at w)) (least_in K n exit a w)) (sym h.0) (reached near small w h.1);
      missed = λ a w la lw none. missed a w la lw none (cases_eq a s);
      beyond = beyond_then (n * n) _ _ _ filled_beyond better_beyond;
      there = length-set t.there s row;
    }
      where
        missed : (a w : ℕ) → a < n → w < n → (InRow s via.reached a w → ⊥) → (a ≡ s) ⊎ (a ≡ s → ⊥) → least_in K n exit a w ≡ least_in K n t a w
        missed a w la lw none (inr ne) = other_row a w la lw ne
        missed a w la lw none (inl e) = subst (λ a. least_in K n exit a w ≡ least_in K n t a w) (sym e) (not_reached w lw (elim (cases_Bool (holds via.reached w)) [ inl r ↦ absurd (none (e, r)) | inr r ↦ r ]))
