-- A table that is loaded with cards, row by row.
-- The cell of s and t stands at s * n + t.
use Rattle.std.proofs.Common.{◌≡◌, ℕ, ◌+◌, ◌-◌, ◌*◌, ◌<◌, ◌≤◌, true, false, not, ◌&&◌, cond, eqb, ltb, ◌⊎◌, List, [], ◌∷◌, zero, suc, ◌++◌, length, map, get_or, take, drop, set, is_some, Some, None, Option, sym, refl, ap, ◌∙◌, subst, subst₂, inl, inr, arith}
use borrow.Rule.Slice.PartMut.{put_mid, Post-is}
use mathlib.Core.Path.{fun_ext}
use Rattle.std.proofs.lemmas.List.{append_assoc, length-append, length-drop, length-take-le, length-set, get_or-append_right, get_or-drop, get_or-set_same, get_or-set_other}
use Rattle.std.proofs.lemmas.Nat.{mul-add-lt}
use Rattle.std.proofs.lemmas.Bool.{ltb-true, lt-ltb, ne_eqb, false≢true, and_parts, and_from, cases_Bool, cases_eq, cond-true, cond-false}
use Rattle.costs.specs.declared.Cost.{Ghosts as Kind}
use Rattle.walks.specs.Theorems.{Sound}
use Rattle.bay.specs.Cells.{Table, Roomy, Laid, tabled, meaning_at, least_in, cards_in}
use Rattle.bay.specs.Buffers.{Beyond}
use Rattle.bay.specs.FormatSets.{holds, no_formats}
use Rattle.bay.specs.Solved.{Admitted}
use Rattle.bay.specs.declared.cells.Cell.{Cell}
use Rattle.bay.specs.declared.sets.FormatSet.{FormatSet}
use Rattle.registers.specs.Meaning.{most_formats}
use Rattle.bay.proofs.Passes.{beyond_then, meaning_same, meaning_other}

-- the first k cells are set
pub beyond_front : {C : Type 0} (k : ℕ) (cells front : List (Cell C)) → length front ≡ k → k ≤ length cells → Beyond k cells (front ++ drop k cells)
beyond_front k cells front long room = record {
  long = omega (arith, length-append front (drop k cells), length-drop k cells);
  same = λ j d m. get_or-append_right front (drop k cells) k j d long m ∙ get_or-drop k cells (j - k) d ∙ ap (λ i. get_or cells i d) (omega arith);
}

-- a part of the first k cells is set
pub beyond_part : {C : Type 0} (k a b : ℕ) (before cells row : List (Cell C)) → a ≤ b → b ≤ k → k ≤ length before → length row ≡ b - a → Beyond k before cells → Beyond k before (put_mid a (b - a) cells row)
beyond_part k a b before cells row le inside room long was =
    let front : length (take a cells ++ row) ≡ b = omega (arith, length-append (take a cells) row, length-take-le a cells (omega (arith, was.long))) in
    let is : put_mid a (b - a) cells row ≡ (take a cells ++ row) ++ drop b cells =
    ap (λ rest. take a cells ++ (row ++ rest)) (Post-is a b cells le) ∙ sym (append_assoc (take a cells) row (drop b cells)) in
    let now = beyond_front b cells (take a cells ++ row) front (omega (arith, was.long)) in
    subst (Beyond k before) (sym is) (beyond_then k before cells _ was (record { long = now.long; same = λ j d m. now.same j d (omega arith) }))

module _ {C : Type 0} (K : Kind C) (card : ℕ → Option K.algebra.Value) where
  -- the first t cells of a row are loaded
  pub record RowTo (long : ℕ) (t : ℕ) (row : List (Cell C)) (there : FormatSet) : Type 0 where
    pub length_is : length row ≡ long
    pub loaded : (w : ℕ) → w < t → cond (holds there w) (Some (meaning_at K row w)) None ≡ card w
    pub admitted : (w : ℕ) → w < t → Admitted K.algebra (card w)
    pub rest : (w : ℕ) → t ≤ w → holds there w ≡ false

  -- one more cell, with a card or without
  pub row_card : (long t : ℕ) (row : List (Cell C)) (there : FormatSet) → RowTo long t row there → t < long → (c : Cell C) → Some (K.value c.cost) ≡ card t → Admitted K.algebra (card t) →
      (there' : FormatSet) → holds there' t ≡ true → ((w : ℕ) → (w ≡ t → ⊥) → holds there' w ≡ holds there w) → RowTo long (t + 1) (set row t c) there'
  row_card long t row there r l c is adm there' has others = record {
    length_is = length-set row t c ∙ r.length_is;
    loaded = λ w m. at w m (cases_eq w t);
    admitted = λ w m. elim (cases_eq w t) [ inl e ↦ subst (λ w. Admitted K.algebra (card w)) (sym e) adm | inr ne ↦ r.admitted w (omega arith) ];
    rest = λ w m. others w (λ e. absurd (omega arith)) ∙ r.rest w (omega arith);
  }
    where
      at : (w : ℕ) → w < t + 1 → (w ≡ t) ⊎ (w ≡ t → ⊥) → cond (holds there' w) (Some (meaning_at K (set row t c) w)) None ≡ card w
      at w m (inl e) =
          subst (λ w. cond (holds there' w) (Some (meaning_at K (set row t c) w)) None ≡ card w) (sym e)
          (cond-true (holds there' t) _ _ has ∙ ap Some (meaning_same K row t c (omega (arith, r.length_is))) ∙ is)
      at w m (inr ne) =
          subst₂ (λ h x. cond h (Some x) None ≡ card w) (sym (others w ne)) (sym (meaning_other K row t w c ne)) (r.loaded w (omega arith))

  pub row_gap : (long t : ℕ) (row : List (Cell C)) (there : FormatSet) → RowTo long t row there → None ≡ card t → RowTo long (t + 1) row there
  row_gap long t row there r is = record {
    length_is = r.length_is;
    loaded = λ w m. elim (cases_eq w t) [
      | inl e ↦ subst (λ w. cond (holds there w) (Some (meaning_at K row w)) None ≡ card w) (sym e) (cond-false (holds there t) _ _ (r.rest t (omega arith)) ∙ is)
      | inr ne ↦ r.loaded w (omega arith)
    ];
    admitted = λ w m. elim (cases_eq w t) [ inl e ↦ (λ x f. absurd (false≢true (ap is_some (is ∙ ap card (sym e) ∙ f)))) | inr ne ↦ r.admitted w (omega arith) ];
    rest = λ w m. r.rest w (omega arith);
  }

module _ {C : Type 0} (K : Kind C) (n : ℕ) (card : ℕ → ℕ → Option K.algebra.Value) where
  -- what the cost at a place of a front, or behind it, means
  meaning_front : (xs ys : List (Cell C)) (k : ℕ) → k < length xs → meaning_at K (xs ++ ys) k ≡ meaning_at K xs k
  meaning_front [] ys k l = absurd (omega arith)
  meaning_front (x ∷ xs) ys zero l = refl
  meaning_front (x ∷ xs) ys (suc k) l = meaning_front xs ys k (omega arith)

  meaning_behind : (xs ys : List (Cell C)) (k : ℕ) → meaning_at K (xs ++ ys) (length xs + k) ≡ meaning_at K ys k
  meaning_behind [] ys k = let e : 0 + k ≡ k = omega arith in ap (meaning_at K ys) e
  meaning_behind (x ∷ xs) ys k = let e : suc (length xs) + k ≡ suc (length xs + k) = omega arith in ap (λ j. meaning_at K (x ∷ (xs ++ ys)) j) e ∙ meaning_behind xs ys k

  meaning_mid : (xs ys zs : List (Cell C)) (m k : ℕ) → length xs ≡ m → k < length ys → meaning_at K (xs ++ (ys ++ zs)) (m + k) ≡ meaning_at K ys k
  meaning_mid xs ys zs m k e l = ap (λ m. meaning_at K (xs ++ (ys ++ zs)) (m + k)) (sym e) ∙ meaning_behind xs (ys ++ zs) k ∙ meaning_front ys zs k l

  meaning_take : (xs : List (Cell C)) (m k : ℕ) → k < m → meaning_at K (take m xs) k ≡ meaning_at K xs k
  meaning_take [] zero k l = absurd (omega arith)
  meaning_take [] (suc m) k l = refl
  meaning_take (x ∷ xs) zero k l = absurd (omega arith)
  meaning_take (x ∷ xs) (suc m) zero l = refl
  meaning_take (x ∷ xs) (suc m) (suc k) l = meaning_take xs m k (omega arith)

  -- the first s rows are loaded
  pub record LoadedTo (s : ℕ) (t : Table C) : Type 0 where
    pub rows : (a w : ℕ) → a < s → w < n → least_in K n t a w ≡ card a w
    pub admitted : (a w : ℕ) → a < s → w < n → Admitted K.algebra (card a w)

  pub loaded_none : (t : Table C) → LoadedTo 0 t
  loaded_none t = record { rows = λ a w l m. absurd (omega arith); admitted = λ a w l m. absurd (omega arith) }

  -- a row more is loaded
  pub loaded_row : (s : ℕ) (cells row : List (Cell C)) (there : List FormatSet) (set_of : FormatSet) → s < n → n * n ≤ length cells → length there ≡ most_formats → n ≤ most_formats → length row ≡ n →
      ((w : ℕ) → w < n → cond (holds set_of w) (Some (meaning_at K row w)) None ≡ card s w) → ((w : ℕ) → w < n → Admitted K.algebra (card s w)) → LoadedTo s (tabled cells there) →
      LoadedTo (s + 1) (tabled (put_mid (s * n) (s * n + n - s * n) cells row) (set there s set_of))
  loaded_row s cells row there set_of ls room long few size is adm l = record {
    rows = λ a w m lw. at a w lw m (cases_eq a s);
    admitted = λ a w m lw. elim (cases_eq a s) [ inl e ↦ subst (λ a. Admitted K.algebra (card a w)) (sym e) (adm w lw) | inr ne ↦ l.admitted a w (omega arith) lw ];
  }
    where
      end : s * n + n ≤ n * n
      end = let last = mul-add-lt s n (n - 1) n ls (omega (arith, ls)) in omega (arith, last, ls)

      now : List (Cell C)
      now = put_mid (s * n) (s * n + n - s * n) cells row

      now_is : now ≡ take (s * n) cells ++ (row ++ drop (s * n + n) cells)
      now_is = ap (λ rest. take (s * n) cells ++ (row ++ rest)) (Post-is (s * n) (s * n + n) cells (omega arith))

      front : length (take (s * n) cells) ≡ s * n
      front = length-take-le (s * n) cells (omega (arith, end, room))

      value : Cell C → K.algebra.Value
      value c = K.value c.cost

      at : (a w : ℕ) → w < n → a < s + 1 → (a ≡ s) ⊎ (a ≡ s → ⊥) → least_in K n (tabled now (set there s set_of)) a w ≡ card a w
      at a w lw m (inl e) = subst (λ a. least_in K n (tabled now (set there s set_of)) a w ≡ card a w) (sym e)
          (subst₂ (λ h x. cond (holds h w) (Some x) None ≡ card s w) (sym (get_or-set_same there s set_of no_formats (omega (arith, long, few, ls)))) (sym here) (is w lw))
        where
          here : meaning_at K now (s * n + w) ≡ meaning_at K row w
          here = ap (λ xs. get_or (map value xs) (s * n + w) K.algebra.unit) now_is ∙ meaning_mid (take (s * n) cells) row (drop (s * n + n) cells) (s * n) w front (omega (arith, size, lw))
      at a w lw m (inr ne) =
          subst₂ (λ h x. cond (holds h w) (Some x) None ≡ card a w) (sym (get_or-set_other there s a set_of no_formats ne)) (sym there_is) (l.rows a w (omega arith) lw)
        where
          there_is : meaning_at K now (a * n + w) ≡ meaning_at K cells (a * n + w)
          there_is =
              let under = mul-add-lt a n w s (omega arith) lw in
              ap (λ xs. get_or (map value xs) (a * n + w) K.algebra.unit) now_is ∙ meaning_front (take (s * n) cells) (row ++ drop (s * n + n) cells) (a * n + w) (omega (arith, front, under)) ∙ meaning_take cells (s * n) (a * n + w) (omega (arith, under))

  module _ (t : Table C) (inside : (a b : ℕ) (x : K.algebra.Value) → card a b ≡ Some x → (a < n) × (b < n) × (a ≡ b → ⊥)) (l : LoadedTo n t) where
    pub loaded_cards : cards_in K n t ≡ card
    loaded_cards = fun_ext (λ s. fun_ext (λ w. go s w (cases_Bool (ltb s n && (ltb w n && not (eqb s w))))))
      where
        none : (s w : ℕ) → (ltb s n && (ltb w n && not (eqb s w))) ≡ false → (o : Option K.algebra.Value) → card s w ≡ o → None ≡ card s w
        none s w h None e = sym e
        none s w h (Some x) e =
            let i = inside s w x e in
            let b = and_from _ _ (lt-ltb s n i.0) (and_from _ _ (lt-ltb w n i.1) (ap not (ne_eqb s w i.2))) in
            let z : true ≡ false = sym b ∙ h in
            cc

        go : (s w : ℕ) → ((ltb s n && (ltb w n && not (eqb s w))) ≡ true) ⊎ ((ltb s n && (ltb w n && not (eqb s w))) ≡ false) → cards_in K n t s w ≡ card s w
        go s w (inl h) =
            let p = and_parts (ltb s n) _ h in
            let q = and_parts (ltb w n) _ p.1 in
            cond-true _ _ _ h ∙ l.rows s w (ltb-true s n p.0) (ltb-true w n q.0)
        go s w (inr h) = cond-false _ _ _ h ∙ none s w h (card s w) refl

    pub loaded_sound : n ≤ most_formats → Sound K.algebra n card
    loaded_sound few = record {
      small = omega arith;
      inside = inside;
      admitted = λ a b x e. (let i = inside a b x e in l.admitted a b i.0 i.1 x e);
    }

    pub loaded_laid : Roomy K n t → Laid K n t
    loaded_laid roomy = record { roomy = roomy; sound = subst (Sound K.algebra n) (sym loaded_cards) (loaded_sound roomy.few) }
