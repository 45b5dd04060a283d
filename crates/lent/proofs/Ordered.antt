-- Entries in the order of their pairs: what a search for a pair finds, and what they are once some have moved by one.
use Rattle.std.proofs.Common.{◌≡◌, ℕ, zero, suc, ◌+◌, ◌-◌, ◌<◌, ◌≤◌, Bool, true, false, not, ◌&&◌, ◌⊎◌, inl, inr, ⊎_elim, eqb, ltb, List, [], ◌∷◌, length, get_or, take, drop, set, is_some, Some, None, Option, sym, refl, ap, ◌∙◌, subst, arith}
use Rattle.std.specs.List.{insert, remove, CopiedTo, SameBelow, SameFrom}
use Rattle.std.proofs.lemmas.List.{length-set, length-take, length-take-le, length-append, get_or-take, get_or-drop, get_or-set_same, get_or-set_other, get_or_append_left, get_or-append_right, get_or_past, get_or_default, ext_get_or}
use Rattle.std.proofs.lemmas.List.Edits.{length-insert, length-remove, get_or-insert_below, get_or-insert_at, get_or-insert_above, get_or-remove_below, get_or-remove_above}
use Rattle.std.specs.List.Sorted.{IsPartitionedBy, IsPartitionPoint}
use Rattle.std.proofs.lemmas.List.Sums.{position_or_len_is}
use Rattle.std.proofs.lemmas.Bool.{and_parts, and_from, or_cases, or_left, or_right, both_ways, false≢true, ltb-true, lt-ltb, eqb-true, eq-eqb, cases_lt, cases_eq, cases_order, false_from_ne_true, true_from_ne_false}
use Rattle.lent.specs.declared.list.Entry.{Entry}
use Rattle.lent.specs.List.{live, cost_of, cost_for, first_cost, lower_pair, is_lower, is_for, lower, Rising, EmptyFrom, FirstLive, place_of, shifted_up, shifted_down, InOrder, FoundAt, NoneAt}

-- the order of pairs
lower_parts : (a b c d : ℕ) → lower_pair a b c d ≡ true → (a < c) ⊎ ((a ≡ c) × (b < d))
lower_parts a b c d h =
    ⊎_elim
    (λ (e : ltb a c ≡ true). inl (ltb-true a c e))
    (λ (e : (eqb a c && ltb b d) ≡ true). let p = and_parts (eqb a c) (ltb b d) e in inr (eqb-true a c p.0, ltb-true b d p.1))
    (or_cases (ltb a c) (eqb a c && ltb b d) h)

by_first : (a b c d : ℕ) → a < c → lower_pair a b c d ≡ true
by_first a b c d h = or_left (ltb a c) (eqb a c && ltb b d) (lt-ltb a c h)

by_second : (a b c d : ℕ) → a ≡ c → b < d → lower_pair a b c d ≡ true
by_second a b c d e h = or_right (ltb a c) (eqb a c && ltb b d) (and_from (eqb a c) (ltb b d) (eq-eqb a c e) (lt-ltb b d h))

pub not_itself : (a b : ℕ) → lower_pair a b a b ≡ true → ⊥
not_itself a b h =
    ⊎_elim (λ (l : a < a). omega arith) (λ (l : (a ≡ a) × (b < b)). let m = l.1 in omega arith) (lower_parts a b a b h)

pair_trans : (a b c d e f : ℕ) → lower_pair a b c d ≡ true → lower_pair c d e f ≡ true → lower_pair a b e f ≡ true
pair_trans a b c d e f g h =
    ⊎_elim
    (λ (l : a < c). ⊎_elim (λ (m : c < e). by_first a b e f (omega arith)) (λ (m : (c ≡ e) × (d < f)). let q = m.0 in by_first a b e f (omega arith)) (lower_parts c d e f h))
    (λ (l : (a ≡ c) × (b < d)). let p = l.0 in let r = l.1 in ⊎_elim
    (λ (m : c < e). by_first a b e f (omega arith))
    (λ (m : (c ≡ e) × (d < f)). let q = m.0 in let s = m.1 in by_second a b e f (p ∙ q) (omega arith))
    (lower_parts c d e f h))
    (lower_parts a b c d g)

other_way : (a b c d : ℕ) → lower_pair a b c d ≡ false → (eqb a c && eqb b d) ≡ false → lower_pair c d a b ≡ true
other_way a b c d g ne =
    ⊎_elim
    (λ (e : a ≡ c). ⊎_elim
    (λ (m : b ≡ d). absurd (both_ways (eqb a c && eqb b d) ne (and_from (eqb a c) (eqb b d) (eq-eqb a c e) (eq-eqb b d m))))
    (λ (m : (b < d) ⊎ (d < b)). ⊎_elim (λ (l : b < d). absurd (both_ways (lower_pair a b c d) g (by_second a b c d e l))) (λ (l : d < b). by_second c d a b (sym e) l) m)
    (cases_order b d))
    (λ (m : (a < c) ⊎ (c < a)). ⊎_elim (λ (l : a < c). absurd (both_ways (lower_pair a b c d) g (by_first a b c d l))) (λ (l : c < a). by_first c d a b l) m)
    (cases_order a c)

pub no_some : {X : Type 0} (o : Option X) → is_some o ≡ false → o ≡ None
no_some None e = refl
no_some (Some x) e = absurd (false≢true (sym e))

module _ {C : Type 0} where
  -- an entry for the pair stands in the order as the pair does
  pub left_of : (x : Option (Entry C)) (a b c d : ℕ) → is_for x a b ≡ true → is_lower x c d ≡ lower_pair a b c d
  left_of None a b c d h = absurd (false≢true h)
  left_of (Some e) a b c d h =
      let p = and_parts (eqb e.from a) (eqb e.to b) h in
      λ i. lower_pair (eqb-true e.from a p.0 i) (eqb-true e.to b p.1 i) c d

  pub right_of : (x y : Option (Entry C)) (a b : ℕ) → is_for x a b ≡ true → lower y x ≡ is_lower y a b
  right_of None y a b h = absurd (false≢true h)
  right_of (Some e) y a b h =
      let p = and_parts (eqb e.from a) (eqb e.to b) h in
      λ i. is_lower y (eqb-true e.from a p.0 i) (eqb-true e.to b p.1 i)

  through : (x y : Option (Entry C)) (a b : ℕ) → lower y x ≡ true → is_lower x a b ≡ true → is_lower y a b ≡ true
  through None y a b g h = absurd (false≢true g)
  through (Some e) None a b g h = absurd (false≢true g)
  through (Some e) (Some z) a b g h = pair_trans z.from z.to e.from e.to a b g h

  -- an entry of a lower pair is not for the pair
  pub lower_not_for : (x : Option (Entry C)) (a b : ℕ) → is_lower x a b ≡ true → is_for x a b ≡ false
  lower_not_for x a b h = false_from_ne_true (is_for x a b) (λ e. not_itself a b (sym (left_of x a b a b e) ∙ h))

  -- an entry that is neither lower nor for the pair is higher
  pub higher : (x : Option (Entry C)) (e : Entry C) → is_some x ≡ true → is_lower x e.from e.to ≡ false → is_for x e.from e.to ≡ false → lower (Some e) x ≡ true
  higher None e s g h = absurd (false≢true s)
  higher (Some z) e s g h = other_way z.from z.to e.from e.to g h

  pub behind : (x y : Option (Entry C)) (e : Entry C) → lower (Some e) x ≡ true → lower x y ≡ true → lower (Some e) y ≡ true
  behind x None e g h = absurd (false≢true h)
  behind x (Some z) e g h = through x (Some e) z.from z.to g h

module _ {C : Type 0} (admits : C → Bool) (n : ℕ) where
  -- an entry has a cost for its own pair alone
  pub cost_none : (x : Option (Entry C)) (a b : ℕ) → is_for x a b ≡ false → cost_for admits n x a b ≡ None
  cost_none None a b h = refl
  cost_none (Some e) a b h = by_live (live admits n (Some e)) refl
    where
      by_live : (l : Option (Entry C)) → live admits n (Some e) ≡ l → cost_of admits n l a b ≡ None
      by_live None q = refl
      by_live (Some z) q = grind arith

  pub cost_some : (x : Option (Entry C)) (a b : ℕ) → is_some (live admits n x) ≡ true → is_for x a b ≡ true → is_some (cost_for admits n x a b) ≡ true
  cost_some None a b s h = absurd (false≢true s)
  cost_some (Some e) a b s h = grind arith

  pub is_for_cost : (x : Option (Entry C)) (a b : ℕ) → is_some (cost_for admits n x a b) ≡ true → is_for x a b ≡ true
  is_for_cost x a b s = true_from_ne_false (is_for x a b) (λ h. false≢true (sym (ap is_some (cost_none x a b h)) ∙ s))

module _ {C : Type 0} (admits : C → Bool) (n : ℕ) where
  -- where no entry is for the pair, it has no cost
  pub none_in : (es : List (Option (Entry C))) (a b : ℕ) → ((k : ℕ) → is_for (get_or es k None) a b ≡ false) → first_cost admits n es a b ≡ None
  none_in [] a b none = refl
  none_in (x ∷ xs) a b none =
      let rest = none_in xs a b (λ k. none (suc k)) in
      rw (cost_none admits n x a b (none 0), rest)

  pub some_live : (x : Option (Entry C)) → is_some (live admits n x) ≡ true → is_some x ≡ true
  some_live None h = absurd (false≢true h)
  some_live (Some e) h = refl

-- the front of a list has no entry for the pair where none of its entries is
pub none_in_front : {C : Type 0} (admits : C → Bool) (n : ℕ) (es : List (Option (Entry C))) (i a b : ℕ) → ((k : ℕ) → k < i → is_for (get_or es k None) a b ≡ false) → first_cost admits n (take i es) a b ≡ None
none_in_front admits n es i a b none = none_in admits n (take i es) a b at
  where
    at : (k : ℕ) → is_for (get_or (take i es) k None) a b ≡ false
    at k = ⊎_elim
        (λ (h : k < i). ap (λ x. is_for x a b) (get_or-take i es k None h) ∙ none k h)
        (λ (h : i ≤ k). ap (λ x. is_for x a b) (get_or_past (take i es) k None (omega (arith, length-take i es))))
        (cases_lt k i)

-- and so its back
pub none_in_back : {C : Type 0} (admits : C → Bool) (n : ℕ) (es : List (Option (Entry C))) (i a b : ℕ) → ((k : ℕ) → i ≤ k → is_for (get_or es k None) a b ≡ false) → first_cost admits n (drop i es) a b ≡ None
none_in_back admits n es i a b none =
    none_in admits n (drop i es) a b (λ k. ap (λ x. is_for x a b) (get_or-drop i es k None) ∙ none (i + k) (omega arith))

module _ {C : Type 0} (admits : C → Bool) (n count : ℕ) (es : List (Option (Entry C))) (f : InOrder admits n count es) where
  empty : (k : ℕ) → count ≤ k → get_or es k None ≡ None
  empty k h = no_some (get_or es k None) (f.clear k h)

  -- a cut between the lower entries and the others
  module _ (a b i : ℕ) (within : i ≤ count) (below : (k : ℕ) → k < i → is_lower (get_or es k None) a b ≡ true) (rest : (k : ℕ) → i ≤ k → k < count → is_lower (get_or es k None) a b ≡ false) where
    not_lower : (k : ℕ) → i ≤ k → is_lower (get_or es k None) a b ≡ false
    not_lower k le = ⊎_elim (λ (h : k < count). rest k le h) (λ (h : count ≤ k). ap (λ x. is_lower x a b) (empty k h)) (cases_lt k count)

    cut_place : i ≡ place_of es a b
    cut_place = sym (position_or_len_is (λ e. not (is_lower e a b)) es i None (omega (arith, f.few)) (λ k h. ap not (below k h)) (λ h. ap not (not_lower i (omega arith))))

    pub found : i < count → is_for (get_or es i None) a b ≡ true → FoundAt admits n count es a b i
    found h is = (h, cut_place, cost_some admits n (get_or es i None) a b (f.live i h) is)

    pub absent : (i < count → is_for (get_or es i None) a b ≡ false) → NoneAt admits n count es a b i
    absent new = (within, cut_place, none_in admits n es a b none)
      where
        none : (k : ℕ) → is_for (get_or es k None) a b ≡ false
        none k = ⊎_elim
            (λ (l : k < i). lower_not_for (get_or es k None) a b (below k l))
            (λ (l : i ≤ k). ⊎_elim
            (λ (h : count ≤ k). ap (λ x. is_for x a b) (empty k h))
            (λ (h : k < count). ⊎_elim
            (λ (e : k ≡ i). subst (λ j. is_for (get_or es j None) a b ≡ false) (sym e) (new (omega arith)))
            (λ (ne : k ≡ i → ⊥). false_from_ne_true (is_for (get_or es k None) a b) (λ is. both_ways (is_lower (get_or es i None) a b) (rest i (omega arith) (omega arith)) (sym (right_of (get_or es k None) (get_or es i None) a b is) ∙ f.rise i k (omega (arith, ne)) h)))
            (cases_eq k i))
            (⊎_elim inr inl (cases_lt k count)))
            (cases_lt k i)

-- lists that agree at each place, read by one default
alike : {X : Type 0} (d : X) (xs ys : List X) → length xs ≡ length ys → ((k : ℕ) → k < length xs → get_or xs k d ≡ get_or ys k d) → xs ≡ ys
alike d xs ys long same = ext_get_or d xs ys long same

no_entry : {X : Type 0} (k : ℕ) → ◌≡◌ {A = Option X} (get_or (None ∷ []) k None) None
no_entry zero = refl
no_entry (suc k) = refl

-- entries with one put in at i, among the first `count`
module _ {C : Type 0} (count i : ℕ) (es : List (Option (Entry C))) (e : Option (Entry C)) (within : i ≤ count) (room : count < length es) (clear : EmptyFrom count es) where
  pub length_up : length (shifted_up es i e) ≡ length es
  length_up = length-take-le (length es) (insert es i e) (omega (arith, length-insert es i e (omega arith)))

  pub up_below : (k : ℕ) → k < i → get_or (shifted_up es i e) k None ≡ get_or es k None
  up_below k h = get_or-take (length es) (insert es i e) k None (omega arith) ∙ get_or-insert_below es i e None k h (omega arith)

  pub up_there : get_or (shifted_up es i e) i None ≡ e
  up_there = get_or-take (length es) (insert es i e) i None (omega arith) ∙ get_or-insert_at es i e None (omega arith)

  pub up_above : (k : ℕ) → i ≤ k → k + 1 < length es → get_or (shifted_up es i e) (k + 1) None ≡ get_or es k None
  up_above k h l = get_or-take (length es) (insert es i e) (k + 1) None l ∙ get_or-insert_above es i e None k h (omega arith)

  pub up_past : EmptyFrom (count + 1) (shifted_up es i e)
  up_past k h = ⊎_elim
      (λ (l : k < length es). let e : k ≡ (k - 1) + 1 = omega arith in
      ap (λ j. is_some (get_or (shifted_up es i e') j None)) e ∙ ap is_some (up_above (k - 1) (omega arith) (omega arith)) ∙ clear (k - 1) (omega arith))
      (λ (l : length es ≤ k). ap is_some (get_or_past (shifted_up es i e') k None (omega (arith, length_up))))
      (cases_lt k (length es))
    where
      e' : Option (Entry C)
      e' = e

  -- as the copy and the write make them
  pub up_made : (copied : List (Option (Entry C))) → length copied ≡ length es → CopiedTo es copied i (i + 1) (count - i) × SameBelow es copied (i + 1) × SameFrom es copied (i + 1 + (count - i)) → set copied i e ≡ shifted_up es i e
  up_made copied long by_index = alike None (set copied i e) (shifted_up es i e) (length-set copied i e ∙ long ∙ sym length_up) at
    where
      at : (k : ℕ) → k < length (set copied i e) → get_or (set copied i e) k None ≡ get_or (shifted_up es i e) k None
      at k h = ⊎_elim
          (λ (same : k ≡ i). ap (λ j. get_or (set copied i e) j None) same ∙ get_or-set_same copied i e None (omega arith) ∙ sym up_there ∙ ap (λ j. get_or (shifted_up es i e) j None) (sym same))
          (λ (ne : k ≡ i → ⊥). get_or-set_other copied i k e None ne ∙ ⊎_elim
          (λ (l : k < i). by_index.1 k None (omega arith) ∙ sym (up_below k l))
          (λ (l : i ≤ k). let m : k ≡ (k - 1) + 1 = omega (arith, ne) in
          let above = up_above (k - 1) (omega (arith, ne)) (omega (arith, length-set copied i e)) in
          ⊎_elim
          (λ (inner : k < count + 1). by_index.0 k None (omega (arith, ne)) (omega (arith, ne)) ∙ ap (λ j. get_or es j None) (omega (arith, ne)) ∙ sym above ∙ ap (λ j. get_or (shifted_up es i e) j None) (sym m))
          (λ (outer : count + 1 ≤ k). by_index.2 k None (omega arith) ∙ no_some (get_or es k None) (clear k (omega arith)) ∙ sym (no_some (get_or (shifted_up es i e) k None) (up_past k outer)))
          (cases_lt k (count + 1)))
          (cases_lt k i))
          (cases_eq k i)

-- entries with the one at i taken out
module _ {C : Type 0} (count i : ℕ) (es : List (Option (Entry C))) (within : i < count) (few : count ≤ length es) (clear : EmptyFrom count es) where
  pub length_down : length (shifted_down es i) ≡ length es
  length_down = length-append (remove es i) (None ∷ []) ∙ length-remove es i (omega arith)

  less : length (remove es i) + 1 ≡ length es
  less = length-remove es i (omega arith)

  pub down_below : (k : ℕ) → k < i → get_or (shifted_down es i) k None ≡ get_or es k None
  down_below k h = get_or_append_left (remove es i) (None ∷ []) None k (omega (arith, less)) ∙ get_or-remove_below es i None k h (omega arith)

  pub down_above : (k : ℕ) → i ≤ k → k + 1 < length es → get_or (shifted_down es i) k None ≡ get_or es (k + 1) None
  down_above k h l = get_or_append_left (remove es i) (None ∷ []) None k (omega (arith, less)) ∙ get_or-remove_above es i None k h (omega arith)

  pub down_past : EmptyFrom (count - 1) (shifted_down es i)
  down_past k h = ⊎_elim
      (λ (l : k + 1 < length es). ap is_some (down_above k (omega arith) l) ∙ clear (k + 1) (omega arith))
      (λ (l : length es ≤ k + 1). ap is_some (get_or-append_right (remove es i) (None ∷ []) (length (remove es i)) k None refl (omega (arith, less)) ∙ no_entry (k - length (remove es i))))
      (cases_lt (k + 1) (length es))

  pub down_made : (copied : List (Option (Entry C))) → length copied ≡ length es → CopiedTo es copied (i + 1) i (count - (i + 1)) × SameBelow es copied i × SameFrom es copied (i + (count - (i + 1))) → set copied (count - 1) None ≡ shifted_down es i
  down_made copied long by_index = alike None (set copied (count - 1) None) (shifted_down es i) (length-set copied (count - 1) None ∙ long ∙ sym length_down) at
    where
      at : (k : ℕ) → k < length (set copied (count - 1) None) → get_or (set copied (count - 1) None) k None ≡ get_or (shifted_down es i) k None
      at k h = ⊎_elim
          (λ (same : k ≡ count - 1). ap (λ j. get_or (set copied (count - 1) None) j None) same ∙ get_or-set_same copied (count - 1) None None (omega arith) ∙ sym (no_some (get_or (shifted_down es i) k None) (down_past k (omega arith))))
          (λ (ne : k ≡ count - 1 → ⊥). get_or-set_other copied (count - 1) k None None ne ∙ ⊎_elim
          (λ (l : k < i). by_index.1 k None l ∙ sym (down_below k l))
          (λ (l : i ≤ k). ⊎_elim
          (λ (inner : k < count - 1). by_index.0 k None l (omega arith) ∙ ap (λ j. get_or es j None) (omega arith) ∙ sym (down_above k l (omega arith)))
          (λ (outer : count - 1 ≤ k). by_index.2 k None (omega arith) ∙ no_some (get_or es k None) (clear k (omega (arith, ne))) ∙ sym (no_some (get_or (shifted_down es i) k None) (down_past k outer)))
          (cases_lt k (count - 1)))
          (cases_lt k i))
          (cases_eq k (count - 1))

-- a place of the first count + 1: below i, at i, or behind i
cases_up : (k i count : ℕ) → k < count + 1 → (k < i) ⊎ ((k ≡ i) ⊎ ((m : ℕ) × (k ≡ m + 1) × (i ≤ m) × (m < count)))
cases_up k i count h =
    ⊎_elim
    (λ (e : k ≡ i). inr (inl e))
    (λ (d : (k < i) ⊎ (i < k)). ⊎_elim (λ (l : k < i). inl l) (λ (l : i < k). inr (inr (k - 1, omega arith, omega arith, omega arith))) d)
    (cases_order k i)

-- the entries that hold cards, with one put in between those of lower and those of higher pairs
module _ {C : Type 0} (admits : C → Bool) (n count i : ℕ) (es : List (Option (Entry C))) (e : Entry C) (f : InOrder admits n count es) (within : i ≤ count) (room : count < length es)
    (lives : is_some (live admits n (Some e)) ≡ true) (below : (k : ℕ) → k < i → is_lower (get_or es k None) e.from e.to ≡ true) (above : (k : ℕ) → i ≤ k → k < count → lower (Some e) (get_or es k None) ≡ true) where
  abbrev new : List (Option (Entry C))
  new = shifted_up es i (Some e)

  abbrev at : ℕ → Option (Entry C)
  at k = get_or new k None

  there : (k : ℕ) → k ≡ i → at k ≡ Some e
  there k h = ap at h ∙ up_there count i es (Some e) within room f.clear

  lower_at : (k : ℕ) → k < i → at k ≡ get_or es k None
  lower_at k h = up_below count i es (Some e) within room f.clear k h

  upper_at : (k m : ℕ) → k ≡ m + 1 → i ≤ m → m < count → at k ≡ get_or es m None
  upper_at k m s h l = ap at s ∙ up_above count i es (Some e) within room f.clear m h (omega arith)

  up_live : FirstLive admits n (count + 1) new
  up_live k h =
      ⊎_elim
      (λ (l : k < i). ap (λ x. is_some (live admits n x)) (lower_at k l) ∙ f.live k (omega arith))
      (λ (d : (k ≡ i) ⊎ ((m : ℕ) × (k ≡ m + 1) × (i ≤ m) × (m < count))). ⊎_elim
      (λ (s : k ≡ i). ap (λ x. is_some (live admits n x)) (there k s) ∙ lives)
      (λ (s : (m : ℕ) × (k ≡ m + 1) × (i ≤ m) × (m < count)). ap (λ x. is_some (live admits n x)) (upper_at k s.0 s.1 s.2 s.3) ∙ f.live s.0 s.3)
      d)
      (cases_up k i count h)

  up_rise : Rising (count + 1) new
  up_rise j k jk h =
      ⊎_elim
      (λ (l : k < i). (λ t. lower (lower_at j (omega arith) t) (lower_at k l t)) ∙ f.rise j k jk (omega arith))
      (λ (d : (k ≡ i) ⊎ ((m : ℕ) × (k ≡ m + 1) × (i ≤ m) × (m < count))). ⊎_elim
      (λ (s : k ≡ i). (λ t. lower (lower_at j (omega arith) t) (there k s t)) ∙ below j (omega arith))
      (λ (s : (m : ℕ) × (k ≡ m + 1) × (i ≤ m) × (m < count)). ⊎_elim
      (λ (l : j < i). (λ t. lower (lower_at j l t) (upper_at k s.0 s.1 s.2 s.3 t)) ∙ f.rise j s.0 (omega (arith, s.2)) s.3)
      (λ (d : (j ≡ i) ⊎ ((m : ℕ) × (j ≡ m + 1) × (i ≤ m) × (m < count))). ⊎_elim
      (λ (q : j ≡ i). (λ t. lower (there j q t) (upper_at k s.0 s.1 s.2 s.3 t)) ∙ above s.0 s.2 s.3)
      (λ (q : (m : ℕ) × (j ≡ m + 1) × (i ≤ m) × (m < count)). (λ t. lower (upper_at j q.0 q.1 q.2 q.3 t) (upper_at k s.0 s.1 s.2 s.3 t)) ∙ f.rise q.0 s.0 (omega (arith, q.1, s.1)) s.3)
      d)
      (cases_up j i count (omega arith)))
      d)
      (cases_up k i count h)

  pub sorted_up : InOrder admits n (count + 1) new
  sorted_up = record { few = omega (arith, length_up count i es (Some e) within room f.clear); live = up_live; rise = up_rise; clear = up_past count i es (Some e) within room f.clear }

-- the entries that hold cards, without the one at i
module _ {C : Type 0} (admits : C → Bool) (n count i : ℕ) (es : List (Option (Entry C))) (f : InOrder admits n count es) (within : i < count) where
  abbrev left : List (Option (Entry C))
  left = shifted_down es i

  down_lower : (k : ℕ) → k < i → get_or left k None ≡ get_or es k None
  down_lower k h = down_below count i es within f.few f.clear k h

  down_upper : (k : ℕ) → i ≤ k → k < count - 1 → get_or left k None ≡ get_or es (k + 1) None
  down_upper k h l = down_above count i es within f.few f.clear k h (omega (arith, f.few))

  down_live : FirstLive admits n (count - 1) left
  down_live k h =
      ⊎_elim
      (λ (l : k < i). ap (λ x. is_some (live admits n x)) (down_lower k l) ∙ f.live k (omega arith))
      (λ (l : i ≤ k). ap (λ x. is_some (live admits n x)) (down_upper k l h) ∙ f.live (k + 1) (omega arith))
      (cases_lt k i)

  down_rise : Rising (count - 1) left
  down_rise j k jk h =
      ⊎_elim
      (λ (l : k < i). (λ t. lower (down_lower j (omega arith) t) (down_lower k l t)) ∙ f.rise j k jk (omega arith))
      (λ (l : i ≤ k). ⊎_elim
      (λ (m : j < i). (λ t. lower (down_lower j m t) (down_upper k l h t)) ∙ f.rise j (k + 1) (omega arith) (omega arith))
      (λ (m : i ≤ j). (λ t. lower (down_upper j m (omega arith) t) (down_upper k l h t)) ∙ f.rise (j + 1) (k + 1) (omega arith) (omega arith))
      (cases_lt j i))
      (cases_lt k i)

  pub sorted_down : InOrder admits n (count - 1) left
  sorted_down = record { few = omega (arith, length_down count i es within f.few f.clear, f.few); live = down_live; rise = down_rise; clear = down_past count i es within f.few f.clear }

-- another entry for the pair of the one at i, in its place
module _ {C : Type 0} (admits : C → Bool) (n count i : ℕ) (es : List (Option (Entry C))) (e : Entry C) (f : InOrder admits n count es) (within : i < count)
    (lives : is_some (live admits n (Some e)) ≡ true) (same : is_for (get_or es i None) e.from e.to ≡ true) where
  abbrev put_in : List (Option (Entry C))
  put_in = set es i (Some e)

  put_there : (k : ℕ) → k ≡ i → get_or put_in k None ≡ Some e
  put_there k h = ap (λ j. get_or put_in j None) h ∙ get_or-set_same es i (Some e) None (omega (arith, f.few))

  put_other : (k : ℕ) → (k ≡ i → ⊥) → get_or put_in k None ≡ get_or es k None
  put_other k ne = get_or-set_other es i k (Some e) None ne

  own : is_for (Some e) e.from e.to ≡ true
  own = and_from (eqb e.from e.from) (eqb e.to e.to) (eq-eqb e.from e.from refl) (eq-eqb e.to e.to refl)

  put_live : FirstLive admits n count put_in
  put_live k h =
      ⊎_elim
      (λ (s : k ≡ i). ap (λ x. is_some (live admits n x)) (put_there k s) ∙ lives)
      (λ (ne : k ≡ i → ⊥). ap (λ x. is_some (live admits n x)) (put_other k ne) ∙ f.live k h)
      (cases_eq k i)

  put_rise : Rising count put_in
  put_rise j k jk h =
      ⊎_elim
      (λ (s : j ≡ i). let ne : k ≡ i → ⊥ = λ z. omega arith in
      (λ t. lower (put_there j s t) (put_other k ne t)) ∙ as_first (get_or es k None) (ap (λ m. lower (get_or es m None) (get_or es k None)) (sym s) ∙ f.rise j k jk h))
      (λ (ne : j ≡ i → ⊥). ⊎_elim
      (λ (s : k ≡ i). (λ t. lower (put_other j ne t) (put_there k s t)) ∙ sym (right_of (get_or es i None) (get_or es j None) e.from e.to same) ∙ ap (λ m. lower (get_or es j None) (get_or es m None)) (sym s) ∙ f.rise j k jk h)
      (λ (nk : k ≡ i → ⊥). (λ t. lower (put_other j ne t) (put_other k nk t)) ∙ f.rise j k jk h)
      (cases_eq k i))
      (cases_eq j i)
    where
      as_first : (x : Option (Entry C)) → lower (get_or es i None) x ≡ true → lower (Some e) x ≡ true
      as_first None g = absurd (false≢true g)
      as_first (Some z) g = left_of (Some e) e.from e.to z.from z.to own ∙ sym (left_of (get_or es i None) e.from e.to z.from z.to same) ∙ g

  pub sorted_put : InOrder admits n count put_in
  sorted_put = record {
    few = omega (arith, f.few, length-set es i (Some e));
    live = put_live;
    rise = put_rise;
    clear = λ k h. ap is_some (put_other k (λ s. omega arith)) ∙ f.clear k h;
  }

-- the first entries, as a binary search for a pair goes through them
module _ {C : Type 0} (admits : C → Bool) (n count : ℕ) (es : List (Option (Entry C))) (f : InOrder admits n count es) (a b : ℕ) where
  read : (k : ℕ) (d : Option (Entry C)) → k < count → get_or (take count es) k d ≡ get_or es k None
  read k d h = get_or-take count es k d h ∙ get_or_default es k d None (omega (arith, f.few))

  long : length (take count es) ≡ count
  long = length-take-le count es f.few

  pub partitioned : IsPartitionedBy (λ e. is_lower e a b) (take count es)
  partitioned i j d le h low =
      let hj : j < count = omega (arith, long) in
      ap (λ e. is_lower e a b) (read i d (omega arith))
      ∙ ⊎_elim
      (λ (s : i ≡ j). ap (λ k. is_lower (get_or es k None) a b) s ∙ sym (ap (λ e. is_lower e a b) (read j d hj)) ∙ low)
      (λ (ne : i ≡ j → ⊥). through (get_or es j None) (get_or es i None) a b (f.rise i j (omega (arith, ne)) hj) (sym (ap (λ e. is_lower e a b) (read j d hj)) ∙ low))
      (cases_eq i j)

  -- from the place where it ends
  module _ (i : ℕ) (within : i ≤ length (take count es)) (point : IsPartitionPoint (λ e. is_lower e a b ≡ true) (λ e. is_lower e a b ≡ false) (take count es) i) where
    low : (k : ℕ) → k < i → is_lower (get_or es k None) a b ≡ true
    low k h = ap (λ e. is_lower e a b) (sym (read k None (omega (arith, long)))) ∙ point.0 k None (omega arith) h

    rest : (k : ℕ) → i ≤ k → k < count → is_lower (get_or es k None) a b ≡ false
    rest k le h = ap (λ e. is_lower e a b) (sym (read k None h)) ∙ point.1 k None le (omega (arith, long))

    pub found_there : i < count → is_for (get_or es i None) a b ≡ true → FoundAt admits n count es a b i
    found_there = found admits n count es f a b i (omega (arith, long)) low rest

    pub absent_there : (i < count → is_for (get_or es i None) a b ≡ false) → NoneAt admits n count es a b i
    absent_there = absent admits n count es f a b i (omega (arith, long)) low rest
