-- A row by way of a pivot, cell after cell: those that are filled, and those that are improved.
use Rattle.std.proofs.Common.{◌≡◌, ℕ, ◌+◌, ◌*◌, ◌<◌, ◌≤◌, ◌⊎◌, Bool, true, false, cond, ◌&&◌, List, length, get_or, set, sym, refl, ap, ◌∙◌, subst, subst₂, inl, inr, arith}
use Rattle.std.proofs.lemmas.Bool.{cases_eq, cases_lt, both_ways}
use Rattle.std.proofs.lemmas.Nat.{mul-add-lt}
use Rattle.costs.specs.declared.Cost.{Ghosts as Kind}
use Rattle.costs.specs.Algebra.{IsJoin}
use Rattle.registers.specs.Meaning.{most_formats}
use Rattle.bay.specs.Buffers.{Beyond}
use Rattle.bay.specs.Cells.{meaning_at}
use Rattle.bay.specs.Eliminated.{Picked}
use Rattle.bay.specs.FormatSets.{holds}
use Rattle.bay.specs.declared.cells.Cell.{Cell}
use Rattle.bay.specs.declared.sets.FormatSet.{FormatSet}
use Rattle.bay.proofs.Passes.{beyond_none, beyond_then, beyond_write, meaning_same, meaning_other, place_lt}
use Rattle.bay.proofs.RowSteps.{apart_rows}

above_it : (s at : ℕ) → s ≤ at → (s ≡ at → ⊥) → (s ≡ at) ⊎ (s ≡ at → ⊥) → s < at
above_it s at u ne (inl e) = absurd (ne e)
above_it s at u ne (inr d) = omega arith

module _ {C : Type 0} (K : Kind C) (n s at : ℕ) where
  -- the cells of the set that are no longer left are filled
  pub record Filling (fresh : FormatSet) (held : C) (entry now : List (Cell C)) (left : FormatSet) : Type 0 where
    pub beyond : Beyond (n * n) entry now
    pub part : (w : ℕ) → w < most_formats → holds left w ≡ true → holds fresh w ≡ true
    pub others : (k : ℕ) → ((w : ℕ) → holds fresh w ≡ true → k ≡ s * n + w → ⊥) → meaning_at K now k ≡ meaning_at K entry k
    pub waits : (w : ℕ) → w < most_formats → holds left w ≡ true → meaning_at K now (s * n + w) ≡ meaning_at K entry (s * n + w)
    pub done : (w : ℕ) → w < most_formats → holds fresh w ≡ true → holds left w ≡ false → IsJoin K.algebra (K.value held) (meaning_at K entry (at * n + w)) (meaning_at K now (s * n + w))

  pub filling_start : (fresh : FormatSet) (held : C) (entry : List (Cell C)) → Filling fresh held entry entry fresh
  filling_start fresh held entry = record {
    beyond = beyond_none (n * n) entry;
    part = λ w l h. h;
    others = λ k h. refl;
    waits = λ w l h. refl;
    done = λ w l h g. absurd (both_ways _ g h);
  }

  module _ (fresh : FormatSet) (held : C) (entry now : List (Cell C)) (left : FormatSet) (f : Filling fresh held entry now left) (room : n * n ≤ length entry) (few : n ≤ most_formats)
      (inside : (s < n) × (at < n) × (s ≡ at → ⊥)) (fresh_in : (w : ℕ) → holds fresh w ≡ true → w < n) (t : ℕ) (lt : t < most_formats) (h : holds left t ≡ true) where
    t_in : t < n
    t_in = fresh_in t (f.part t lt h)

    pub filling_place : s * n + t < length now
    filling_place = omega (arith, place_lt n s t inside.0 t_in, room, f.beyond.long)

    pub filling_pivot : at * n + t < length now
    filling_pivot = omega (arith, place_lt n at t inside.1 t_in, room, f.beyond.long)

    pub pivot_read : meaning_at K now (at * n + t) ≡ meaning_at K entry (at * n + t)
    pivot_read = f.others (at * n + t) (λ w g e. apart_rows n at t s w t_in (fresh_in w g) (λ d. inside.2 (sym d)) e)

    pub filling_more : (c : Cell C) → IsJoin K.algebra (K.value held) (meaning_at K now (at * n + t)) (K.value c.cost) → (left' : FormatSet) → holds left' t ≡ false →
        ((w : ℕ) → w < most_formats → (w ≡ t → ⊥) → holds left' w ≡ holds left w) → Filling fresh held entry (set now (s * n + t) c) left'
    filling_more c is left' gone same = record {
      beyond = beyond_then (n * n) entry now _ f.beyond (beyond_write (n * n) now _ c (place_lt n s t inside.0 t_in));
      part = λ w l g. f.part w l (old w l g);
      others = λ k away. meaning_other K now _ k c (λ e. away t (f.part t lt h) e) ∙ f.others k away;
      waits = λ w l g. meaning_other K now _ (s * n + w) c (λ e. apart w l g (omega arith)) ∙ f.waits w l (old w l g);
      done = λ w l g b. done w l g b (cases_eq w t);
    }
      where
        apart : (w : ℕ) → w < most_formats → holds left' w ≡ true → w ≡ t → ⊥
        apart w l g e = both_ways _ gone (subst (λ w. holds left' w ≡ true) e g)

        old : (w : ℕ) → w < most_formats → holds left' w ≡ true → holds left w ≡ true
        old w l g = sym (same w l (apart w l g)) ∙ g

        done : (w : ℕ) → w < most_formats → holds fresh w ≡ true → holds left' w ≡ false → (w ≡ t) ⊎ (w ≡ t → ⊥) →
            IsJoin K.algebra (K.value held) (meaning_at K entry (at * n + w)) (meaning_at K (set now (s * n + t) c) (s * n + w))
        done w l g b (inl e) =
            subst (λ w. IsJoin K.algebra (K.value held) (meaning_at K entry (at * n + w)) (meaning_at K (set now (s * n + t) c) (s * n + w))) (sym e)
            (subst₂ (IsJoin K.algebra (K.value held)) pivot_read (sym (meaning_same K now (s * n + t) c filling_place)) is)
        done w l g b (inr ne) =
            subst (IsJoin K.algebra (K.value held) (meaning_at K entry (at * n + w))) (sym (meaning_other K now _ (s * n + w) c (λ e. ne (omega arith))))
            (f.done w l g (sym (same w l ne) ∙ b))

  -- the cells of the row from low to t are improved
  pub record Improving (low t : ℕ) (marks : List Bool) (held : C) (entry now : List (Cell C)) : Type 0 where
    pub rises : low ≤ t
    pub beyond : Beyond (n * n) entry now
    pub others : (k : ℕ) → (k < s * n + low) ⊎ (s * n + t ≤ k) → meaning_at K now k ≡ meaning_at K entry k
    pub done : (w : ℕ) → low ≤ w → w < t → Picked K.algebra (get_or marks w false) (K.value held) (meaning_at K entry (at * n + w)) (meaning_at K entry (s * n + w)) (meaning_at K now (s * n + w))

  pub improving_start : (low : ℕ) (marks : List Bool) (held : C) (entry : List (Cell C)) → Improving low low marks held entry entry
  improving_start low marks held entry = record { rises = omega arith; beyond = beyond_none (n * n) entry; others = λ k h. refl; done = λ w l m. absurd (omega arith) }

  pub improving_more : (low t : ℕ) (marks : List Bool) (held : C) (entry now : List (Cell C)) → n * n ≤ length entry → (s < n) × (at < n) × (s ≡ at → ⊥) → t < n → Improving low t marks held entry now →
      (c : Cell C) → Picked K.algebra (get_or marks t false) (K.value held) (meaning_at K now (at * n + t)) (meaning_at K now (s * n + t)) (K.value c.cost) →
      Improving low (t + 1) marks held entry (set now (s * n + t) c)
  improving_more low t marks held entry now room inside m f c p = record {
    rises = omega (arith, f.rises);
    beyond = beyond_then (n * n) entry now _ f.beyond (beyond_write (n * n) now _ c (place_lt n s t inside.0 m));
    others = λ k h. meaning_other K now _ k c (λ e. elim h [ inl a ↦ absurd (omega (arith, f.rises)) | inr b ↦ absurd (omega arith) ]) ∙ f.others k (elim h [ inl a ↦ inl a | inr b ↦ inr (omega arith) ]);
    done = λ w a b. done w a b (cases_eq w t);
  }
    where
      place : s * n + t < length now
      place = omega (arith, place_lt n s t inside.0 m, room, f.beyond.long)

      pivot : meaning_at K now (at * n + t) ≡ meaning_at K entry (at * n + t)
      pivot = f.others (at * n + t) (away (cases_lt at s))
        where
          away : (at < s) ⊎ (s ≤ at) → (at * n + t < s * n + low) ⊎ (s * n + t ≤ at * n + t)
          away (inl u) = let under = mul-add-lt at n t s u m in inl (omega (arith, under))
          away (inr u) = let over = mul-add-lt s n t at (above_it s at u inside.2 (cases_eq s at)) m in inr (omega (arith, over))

      here : meaning_at K now (s * n + t) ≡ meaning_at K entry (s * n + t)
      here = f.others (s * n + t) (inr (omega arith))

      done : (w : ℕ) → low ≤ w → w < t + 1 → (w ≡ t) ⊎ (w ≡ t → ⊥) →
          Picked K.algebra (get_or marks w false) (K.value held) (meaning_at K entry (at * n + w)) (meaning_at K entry (s * n + w)) (meaning_at K (set now (s * n + t) c) (s * n + w))
      done w a b (inl e) =
          subst (λ w. Picked K.algebra (get_or marks w false) (K.value held) (meaning_at K entry (at * n + w)) (meaning_at K entry (s * n + w)) (meaning_at K (set now (s * n + t) c) (s * n + w))) (sym e)
          (subst₂ (λ x y. Picked K.algebra (get_or marks t false) (K.value held) x y (meaning_at K (set now (s * n + t) c) (s * n + t))) pivot here
          (subst (Picked K.algebra (get_or marks t false) (K.value held) (meaning_at K now (at * n + t)) (meaning_at K now (s * n + t))) (sym (meaning_same K now (s * n + t) c place)) p))
      done w a b (inr ne) =
          subst (Picked K.algebra (get_or marks w false) (K.value held) (meaning_at K entry (at * n + w)) (meaning_at K entry (s * n + w))) (sym (meaning_other K now _ (s * n + w) c (λ e. ne (omega arith))))
          (f.done w a (omega (arith, b, ne)))

-- one choice by a mark and by what undercuts
pub picked_by : {C : Type 0} (K : Kind C) (mark under : Bool) (sum cost picked : C) (a b x : K.algebra.Value) → IsJoin K.algebra a b (K.value sum) → K.value cost ≡ x →
    (under ≡ true → K.algebra.Under (K.value sum) (K.value cost)) → (under ≡ false → K.algebra.Under (K.value sum) (K.value cost) → ⊥) →
    picked ≡ cond (mark && under) sum cost → Picked K.algebra mark a b x (K.value picked)
picked_by K false under sum cost picked a b x is ex less never e = record { stays = λ f. ap K.value e ∙ ex; better = λ f. absurd (both_ways _ refl f) }
picked_by K true true sum cost picked a b x is ex less never e =
    record { stays = λ f. absurd (both_ways _ f refl); better = λ f. (K.value sum, is, inl (subst (K.algebra.Under (K.value sum)) ex (less refl), ap K.value e)) }
picked_by K true false sum cost picked a b x is ex less never e =
    record { stays = λ f. absurd (both_ways _ f refl); better = λ f. (K.value sum, is, inr (subst (λ x. K.algebra.Under (K.value sum) x → ⊥) ex (never refl), ap K.value e ∙ ex)) }
