-- A table that is turned over, row by row.
use Rattle.std.proofs.Common.{◌≡◌, ℕ, ◌+◌, ◌*◌, ◌<◌, ◌≤◌, true, false, ◌⊎◌, List, length, get_or, set, sym, refl, ◌∙◌, subst, subst₂, inl, inr, arith}
use Rattle.std.proofs.lemmas.List.{length-set}
use Rattle.std.proofs.lemmas.Bool.{cases_eq}
use Rattle.costs.specs.declared.Cost.{Ghosts as Kind}
use Rattle.bay.specs.Buffers.{Beyond}
use Rattle.bay.specs.Cells.{TurnedRow, meaning_at}
use Rattle.bay.specs.FormatSets.{holds, no_formats}
use Rattle.bay.specs.declared.cells.Cell.{Cell}
use Rattle.bay.specs.declared.sets.FormatSet.{FormatSet}
use Rattle.bay.proofs.Passes.{place_lt, place_same, beyond_none, beyond_then, beyond_write, meaning_same, meaning_other}

module _ {C : Type 0} (K : Kind C) (n s : ℕ) where
  -- the cells of the row before t are swapped with those of the column
  pub record RowTurned (t : ℕ) (entry now : List (Cell C)) : Type 0 where
    pub beyond : Beyond (n * n) entry now
    pub row : (w : ℕ) → w < t → (meaning_at K now (s * n + w) ≡ meaning_at K entry (w * n + s)) × (meaning_at K now (w * n + s) ≡ meaning_at K entry (s * n + w))
    pub others : (a b : ℕ) → a < n → b < n → ((a ≡ s) × (b < t) → ⊥) → ((b ≡ s) × (a < t) → ⊥) → meaning_at K now (a * n + b) ≡ meaning_at K entry (a * n + b)

  pub row_turned_none : (entry : List (Cell C)) → RowTurned 0 entry entry
  row_turned_none entry = record { beyond = beyond_none (n * n) entry; row = λ w l. absurd (omega arith); others = λ a b la lb p q. refl }

  pub row_turned_more : (t : ℕ) (entry now : List (Cell C)) → n * n ≤ length entry → s < n → t < s → RowTurned t entry now → (c d : Cell C) →
      K.value c.cost ≡ meaning_at K now (t * n + s) → K.value d.cost ≡ meaning_at K now (s * n + t) → RowTurned (t + 1) entry (set (set now (s * n + t) c) (t * n + s) d)
  row_turned_more t entry now room ls lt r c d ec ed = record {
    beyond = beyond_then (n * n) entry now _ r.beyond (beyond_then (n * n) now _ _ (beyond_write (n * n) now _ c (place_lt n s t ls tn)) (beyond_write (n * n) _ _ d (place_lt n t s tn ls)));
    row = λ w l. row w l (cases_eq w t);
    others = λ a b la lb p q. (
        meaning_other K _ _ (a * n + b) d (λ e. let i = place_same n a b t s lb ls e in q (i.1, omega (arith, i.0))) ∙
        meaning_other K now _ (a * n + b) c (λ e. let i = place_same n a b s t lb tn e in p (i.0, omega (arith, i.1))) ∙
        r.others a b la lb (λ h. p (h.0, omega (arith, h.1))) (λ h. q (h.0, omega (arith, h.1)))
        );
  }
    where
      tn : t < n
      tn = omega arith

      here : s * n + t < length now
      here = omega (arith, place_lt n s t ls tn, room, r.beyond.long)

      back : t * n + s < length (set now (s * n + t) c)
      back = omega (arith, place_lt n t s tn ls, room, r.beyond.long, length-set now (s * n + t) c)

      apart : s * n + t ≡ t * n + s → ⊥
      apart e = let i = place_same n s t t s tn ls e in omega (arith, i.0)

      first : meaning_at K (set (set now (s * n + t) c) (t * n + s) d) (s * n + t) ≡ meaning_at K now (t * n + s)
      first = meaning_other K _ _ (s * n + t) d apart ∙ meaning_same K now (s * n + t) c here ∙ ec

      second : meaning_at K (set (set now (s * n + t) c) (t * n + s) d) (t * n + s) ≡ meaning_at K now (s * n + t)
      second = meaning_same K _ (t * n + s) d back ∙ ed

      row : (w : ℕ) → w < t + 1 → (w ≡ t) ⊎ (w ≡ t → ⊥) →
          (meaning_at K (set (set now (s * n + t) c) (t * n + s) d) (s * n + w) ≡ meaning_at K entry (w * n + s)) × (meaning_at K (set (set now (s * n + t) c) (t * n + s) d) (w * n + s) ≡ meaning_at K entry (s * n + w))
      row w l (inl e) =
          subst (λ w. (meaning_at K (set (set now (s * n + t) c) (t * n + s) d) (s * n + w) ≡ meaning_at K entry (w * n + s)) × (meaning_at K (set (set now (s * n + t) c) (t * n + s) d) (w * n + s) ≡ meaning_at K entry (s * n + w))) (sym e) (
            first ∙ r.others t s tn ls (λ h. absurd (omega (arith, h.0))) (λ h. absurd (omega (arith, h.1))),
            second ∙ r.others s t ls tn (λ h. absurd (omega (arith, h.1))) (λ h. absurd (omega (arith, h.0))),
          )
      row w l (inr ne) =
          let u = r.row w (omega arith) in (
            meaning_other K _ _ (s * n + w) d (λ e. let i = place_same n s w t s (omega arith) ls e in absurd (omega (arith, i.0))) ∙
                meaning_other K now _ (s * n + w) c (λ e. let i = place_same n s w s t (omega arith) tn e in ne i.1) ∙ u.0,
            meaning_other K _ _ (w * n + s) d (λ e. let i = place_same n w s t s ls ls e in ne i.0) ∙
                meaning_other K now _ (w * n + s) c (λ e. let i = place_same n w s s t ls tn e in absurd (omega (arith, i.1))) ∙ u.1,
          )

module _ {C : Type 0} (K : Kind C) (n : ℕ) where
  -- the cells of two formats below s are swapped
  pub record TurnedTo (s : ℕ) (entry now : List (Cell C)) : Type 0 where
    pub beyond : Beyond (n * n) entry now
    pub below : (a b : ℕ) → a < s → b < s → meaning_at K now (a * n + b) ≡ meaning_at K entry (b * n + a)
    pub above : (a b : ℕ) → a < n → b < n → (s ≤ a) ⊎ (s ≤ b) → meaning_at K now (a * n + b) ≡ meaning_at K entry (a * n + b)

  pub turned_none : (entry : List (Cell C)) → TurnedTo 0 entry entry
  turned_none entry = record { beyond = beyond_none (n * n) entry; below = λ a b l. absurd (omega arith); above = λ a b la lb h. refl }

  pub turned_more : (s : ℕ) (entry now later : List (Cell C)) → s < n → TurnedTo s entry now → Beyond (n * n) now later → TurnedRow K n s now later → TurnedTo (s + 1) entry later
  turned_more s entry now later ls t beyond r = record {
    beyond = beyond_then (n * n) entry now later t.beyond beyond;
    below = λ a b la lb. below a b la lb (cases_eq a s) (cases_eq b s);
    above = λ a b la lb h. r.others a b la lb (λ e. out a b h e.0 (omega (arith, e.1))) (λ e. out b a (other h) e.0 (omega (arith, e.1))) ∙ t.above a b la lb (elim h [ inl u ↦ inl (omega arith) | inr u ↦ inr (omega arith) ]);
  }
    where
      other : {a b : ℕ} → (s + 1 ≤ a) ⊎ (s + 1 ≤ b) → (s + 1 ≤ b) ⊎ (s + 1 ≤ a)
      other (inl u) = inr u
      other (inr u) = inl u

      out : (a b : ℕ) → (s + 1 ≤ a) ⊎ (s + 1 ≤ b) → a ≡ s → b < s → ⊥
      out a b (inl u) e l = omega arith
      out a b (inr u) e l = omega arith

      below : (a b : ℕ) → a < s + 1 → b < s + 1 → (a ≡ s) ⊎ (a ≡ s → ⊥) → (b ≡ s) ⊎ (b ≡ s → ⊥) → meaning_at K later (a * n + b) ≡ meaning_at K entry (b * n + a)
      below a b la lb (inl e) (inl f) =
          subst₂ (λ a b. meaning_at K later (a * n + b) ≡ meaning_at K entry (b * n + a)) (sym e) (sym f)
          (r.others s s ls ls (λ h. absurd (omega (arith, h.1))) (λ h. absurd (omega (arith, h.1))) ∙ t.above s s ls ls (inl (omega arith)))
      below a b la lb (inl e) (inr ne) =
          subst (λ a. meaning_at K later (a * n + b) ≡ meaning_at K entry (b * n + a)) (sym e) ((r.row b (omega arith)).0 ∙ t.above b s (omega arith) ls (inr (omega arith)))
      below a b la lb (inr ne) (inl f) =
          subst (λ b. meaning_at K later (a * n + b) ≡ meaning_at K entry (b * n + a)) (sym f) ((r.row a (omega arith)).1 ∙ t.above s a ls (omega arith) (inl (omega arith)))
      below a b la lb (inr ne) (inr nf) =
          r.others a b (omega arith) (omega arith) (λ h. ne h.0) (λ h. nf h.0) ∙ t.below a b (omega arith) (omega arith)

-- the rows before s that have a format are in the set
pub record ColumnTo (there : List FormatSet) (t s : ℕ) (rows : FormatSet) : Type 0 where
  pub done : (x : ℕ) → x < s → holds rows x ≡ holds (get_or there x no_formats) t
  pub rest : (x : ℕ) → s ≤ x → holds rows x ≡ false

pub column_yes : (there : List FormatSet) (t s : ℕ) (rows rows' : FormatSet) → ColumnTo there t s rows → holds (get_or there s no_formats) t ≡ true → holds rows' s ≡ true →
    ((x : ℕ) → (x ≡ s → ⊥) → holds rows' x ≡ holds rows x) → ColumnTo there t (s + 1) rows'
column_yes there t s rows rows' c has there_is others = record {
  done = λ x l. elim (cases_eq x s) [ inl e ↦ subst (λ x. holds rows' x ≡ holds (get_or there x no_formats) t) (sym e) (there_is ∙ sym has) | inr ne ↦ others x ne ∙ c.done x (omega arith) ];
  rest = λ x l. others x (λ e. absurd (omega arith)) ∙ c.rest x (omega arith);
}

pub column_no : (there : List FormatSet) (t s : ℕ) (rows : FormatSet) → ColumnTo there t s rows → holds (get_or there s no_formats) t ≡ false → ColumnTo there t (s + 1) rows
column_no there t s rows c has = record {
  done = λ x l. elim (cases_eq x s) [ inl e ↦ subst (λ x. holds rows x ≡ holds (get_or there x no_formats) t) (sym e) (c.rest s (omega arith) ∙ sym has) | inr ne ↦ c.done x (omega arith) ];
  rest = λ x l. c.rest x (omega arith);
}
