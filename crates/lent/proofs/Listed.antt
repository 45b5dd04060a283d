-- A list: what its entries give, and how many give one.
use Rattle.std.proofs.Common.{◌≡◌, ℕ, zero, suc, ◌+◌, ◌-◌, ◌<◌, ◌≤◌, Bool, true, false, cond, not, ◌&&◌, ⊎_elim, eqb, List, [], ◌∷◌, ◌++◌, length, get_or, take, drop, set, replicate, is_some, Some, None, Option, Result, Ok, Err, sym, refl, ap, ◌∙◌, subst, add-one, arith}
use mathlib.Core.Path.{fun_ext}
use Rattle.std.specs.Option.{option_map}
use Rattle.std.specs.Result.{MatchResult, result_ok}
use Rattle.std.proofs.lemmas.Option.{none-some, same_Some}
use Rattle.std.specs.List.{insert, remove}
use Rattle.std.proofs.lemmas.List.{length-set, length-replicate, take-append-drop, take_more, drop_more, set_split, get_or_default}
use Rattle.std.proofs.lemmas.List.Edits.{get_or-insert_above}
use Rattle.std.proofs.lemmas.List.Sums.{fails_before_first, passes_at_first}
use Rattle.std.proofs.lemmas.Bool.{and_parts, and_from, both_ways, false≢true, false_from_ne_true, cases_lt, cases_eq, not-true, not-false, cond-true, cond-false, lt-ltb, ne_eqb, eqb-true, eq-eqb}
use Rattle.lent.specs.declared.list.Entry.{Entry}
use Rattle.costs.specs.declared.Cost.{Ghosts as Kind}
use Rattle.costs.specs.Kind.{admits}
use Rattle.registers.specs.Fault.{first_cause, code}
use Rattle.registers.specs.declared.fault.Layer.TheVariants.{Register}
use Rattle.registers.specs.Meaning.{meant, possible, put, entered, withdrawn, enter_causes, withdraw_causes}
use Rattle.lent.specs.Lent.{size_fits, nearest_size, how_many, begun}
use Rattle.lent.specs.List.{or_else, live, cost_of, cost_for, first_cost, entries_fit, list_fits, list_card, listed, list_cleared, is_for, is_lower, lower, shifted_up, shifted_down, with_entry, without, InOrder, FoundAt, NoneAt}
use Rattle.registers.proofs.Meanings.{same_meaning, possible_parts, possible_ends, is_some_mapped, enter_granted, enter_full, enter_after, withdraw_after}
use Rattle.lent.proofs.Totals.{bit, how_many_put, how_many_none}
use Rattle.lent.proofs.Matrices.{nearest_fitting}
use Rattle.lent.proofs.Ordered.{no_some, not_itself, higher, behind, some_live, sorted_up, left_of, right_of, lower_not_for, cost_none, cost_some, is_for_cost, none_in_front, none_in_back, length_up, length_down}

-- options
pub none_or : {X : Type 0} (o : Option X) → or_else o None ≡ o
none_or None = refl
none_or (Some x) = refl

or_assoc : {X : Type 0} (o p q : Option X) → or_else (or_else o p) q ≡ or_else o (or_else p q)
or_assoc None p q = refl
or_assoc (Some x) p q = refl

or_none : {X : Type 0} (o p : Option X) → or_else o p ≡ None → o ≡ None
or_none None p e = refl
or_none (Some x) p e = e

some_or : {X : Type 0} (o p : Option X) → is_some o ≡ true → or_else o p ≡ o
some_or None p e = absurd (false≢true e)
some_or (Some x) p e = refl

bit_or : {X : Type 0} (o : Option X) (x : X) → bit (or_else o (Some x)) ≡ 1
bit_or None x = refl
bit_or (Some y) x = refl

same_pair : (a b c d : ℕ) → (eqb a c && eqb b d) ≡ true → (a ≡ c) × (b ≡ d)
same_pair a b c d e = let h = and_parts (eqb a c) (eqb b d) e in (eqb-true a c h.0, eqb-true b d h.1)

-- at the same pair
at_pair : {X : Type 0} (cards : ℕ → ℕ → Option X) (a b c d : ℕ) → (eqb a c && eqb b d) ≡ true → cards a b ≡ None → cards c d ≡ None
at_pair cards a b c d e none =
    let h = same_pair a b c d e in
    (λ i. cards (sym h.0 i) (sym h.1 i)) ∙ none

-- an entry is for one pair alone
one_pair : {C : Type 0} (x : Option (Entry C)) (a b c d : ℕ) → is_for x a b ≡ true → is_for x c d ≡ true → (eqb a c && eqb b d) ≡ true
one_pair None a b c d p q = absurd (false≢true p)
one_pair (Some e) a b c d p q =
    let x = same_pair e.from e.to a b p in
    let y = same_pair e.from e.to c d q in
    and_from (eqb a c) (eqb b d) (eq-eqb a c (sym x.0 ∙ y.0)) (eq-eqb b d (sym x.1 ∙ y.1))

module _ {C : Type 0} (admits : C → Bool) (n : ℕ) where
  pub first_append : (xs ys : List (Option (Entry C))) (a b : ℕ) → first_cost admits n (xs ++ ys) a b ≡ or_else (first_cost admits n xs a b) (first_cost admits n ys a b)
  first_append [] ys a b = refl
  first_append (x ∷ xs) ys a b = ap (or_else (cost_for admits n x a b)) (first_append xs ys a b) ∙ sym (or_assoc (cost_for admits n x a b) (first_cost admits n xs a b) (first_cost admits n ys a b))

  first_push : (xs : List (Option (Entry C))) (y : Option (Entry C)) (a b : ℕ) → first_cost admits n (xs ++ y ∷ []) a b ≡ or_else (first_cost admits n xs a b) (cost_for admits n y a b)
  first_push xs y a b = first_append xs (y ∷ []) a b ∙ ap (or_else (first_cost admits n xs a b)) (none_or (cost_for admits n y a b))

  pub first_split : (es : List (Option (Entry C))) (i : ℕ) → i < length es → (a b : ℕ) → first_cost admits n es a b ≡ or_else (first_cost admits n (take i es) a b) (or_else (cost_for admits n (get_or es i None) a b) (first_cost admits n (drop (i + 1) es) a b))
  first_split es i h a b =
      ap (λ l. first_cost admits n l a b) (sym (take-append-drop i es) ∙ ap (λ l. take i es ++ l) (drop_more es i None h)) ∙ first_append (take i es) (get_or es i None ∷ drop (i + 1) es) a b

  -- an entry that can hold a card
  pub lives : (x : Option (Entry C)) → is_some (live admits n x) ≡ true → (e : Entry C) × (x ≡ Some e) × (live admits n x ≡ Some e)
  lives None h = absurd (false≢true h)
  lives (Some e) h = (e, refl, by_test (possible n e.from e.to && admits e.cost) h)
    where
      by_test : (t : Bool) → is_some (cond t (Some e) None) ≡ true → cond t (Some e) None ≡ Some e
      by_test true q = refl
      by_test false q = absurd (false≢true q)

  pub live_pair : (y : Option (Entry C)) (e : Entry C) → live admits n y ≡ Some e → (e.from < n) × (e.to < n)
  live_pair None e is = let z : ◌≡◌ {A = ℕ} 0 1 = cc in absurd (omega arith)
  live_pair (Some z) e is = by_test (possible n z.from z.to && admits z.cost) refl is
    where
      by_test : (t : Bool) → (possible n z.from z.to && admits z.cost) ≡ t → cond t (Some z) None ≡ Some e → (e.from < n) × (e.to < n)
      by_test true p q =
          let same : z ≡ e = cc in
          let h = possible_parts n z.from z.to (and_parts (possible n z.from z.to) (admits z.cost) p).0 in
          (subst (λ (w : Entry C). w.from < n) same h.0, subst (λ (w : Entry C). w.to < n) same h.1)
      by_test false p q = let z : ◌≡◌ {A = ℕ} 0 1 = cc in absurd (omega arith)

  -- one more entry, which can hold a card
  module _ (xs : List (Option (Entry C))) (y : Option (Entry C)) (e : Entry C) (is : live admits n y ≡ Some e) where
    pub first_more : (c d : ℕ) → first_cost admits n (xs ++ y ∷ []) c d ≡ put (first_cost admits n xs) e.from e.to (or_else (first_cost admits n xs e.from e.to) (Some e.cost)) c d
    first_more c d =
        first_push xs y c d ∙ ap (λ l. or_else (first_cost admits n xs c d) (cost_of admits n l c d)) is ∙ by_test (eqb e.from c && eqb e.to d) refl
      where
        by_test : (t : Bool) → (eqb e.from c && eqb e.to d) ≡ t → or_else (first_cost admits n xs c d) (cond t (Some e.cost) None) ≡ cond t (or_else (first_cost admits n xs e.from e.to) (Some e.cost)) (first_cost admits n xs c d)
        by_test true p =
            let h = same_pair e.from e.to c d p in
            ap (λ k. or_else (first_cost admits n xs k d) (Some e.cost)) (sym h.0) ∙ ap (λ k. or_else (first_cost admits n xs e.from k) (Some e.cost)) (sym h.1)
        by_test false p = none_or (first_cost admits n xs c d)

    pub counts_more : how_many n (first_cost admits n (xs ++ y ∷ [])) + bit (first_cost admits n xs e.from e.to) ≡ how_many n (first_cost admits n xs) + 1
    counts_more =
        let h = live_pair y e is in
        let same : how_many n (first_cost admits n (xs ++ y ∷ [])) ≡ how_many n (put (first_cost admits n xs) e.from e.to (or_else (first_cost admits n xs e.from e.to) (Some e.cost))) = ap (how_many n) (fun_ext (λ c. fun_ext (λ d. first_more c d))) in
        let changed = how_many_put n (first_cost admits n xs) e.from e.to (or_else (first_cost admits n xs e.from e.to) (Some e.cost)) h.0 h.1 in
        omega (arith, bit_or (first_cost admits n xs e.from e.to) e.cost)

  -- each of the first entries gives a pair its card
  module _ (count : ℕ) (es : List (Option (Entry C))) (f : InOrder admits n count es) where
    counts_front : (k : ℕ) → k ≤ count → how_many n (first_cost admits n (take k es)) ≡ k
    counts_front zero h = how_many_none n (first_cost admits n []) (λ a b. refl)
    counts_front (suc k) h =
        let e = lives (get_or es k None) (f.live k (omega arith)) in
        let own : is_for (get_or es k None) e.0.from e.0.to ≡ true =
        ap (λ x. is_for x e.0.from e.0.to) e.1 ∙ and_from (eqb e.0.from e.0.from) (eqb e.0.to e.0.to) (eq-eqb e.0.from e.0.from refl) (eq-eqb e.0.to e.0.to refl) in
        let new : first_cost admits n (take k es) e.0.from e.0.to ≡ None =
        none_in_front admits n es k e.0.from e.0.to (λ j l. lower_not_for (get_or es j None) e.0.from e.0.to (sym (right_of (get_or es k None) (get_or es j None) e.0.from e.0.to own) ∙ f.rise j k l (omega arith))) in
        let more = ap (λ l. how_many n (first_cost admits n l)) (ap (λ m. take m es) (sym (add-one k)) ∙ take_more es k None (omega (arith, f.few))) in
        omega (arith, more, counts_more (take k es) (get_or es k None) e.0 e.2, ap bit new, counts_front k (omega arith))

    pub counted : how_many n (first_cost admits n es) ≡ count
    counted = ap (how_many n) (fun_ext (λ a. fun_ext (λ b. front a b))) ∙ counts_front count (omega arith)
      where
        front : (a b : ℕ) → first_cost admits n es a b ≡ first_cost admits n (take count es) a b
        front a b =
            ap (λ l. first_cost admits n l a b) (sym (take-append-drop count es))
            ∙ first_append (take count es) (drop count es) a b
            ∙ ap (or_else (first_cost admits n (take count es) a b)) (none_in_back admits n es count a b (λ k h. ap (λ x. is_for x a b) (no_some (get_or es k None) (f.clear k h))))
            ∙ none_or (first_cost admits n (take count es) a b)

  -- the entry at i is for a and b, among sorted ones
  module _ (count i : ℕ) (es : List (Option (Entry C))) (f : InOrder admits n count es) (a b : ℕ) (within : i < count) (is : is_for (get_or es i None) a b ≡ true) where
    inside : i < length es
    inside = omega (arith, f.few)

    pub none_before : first_cost admits n (take i es) a b ≡ None
    none_before = none_in_front admits n es i a b (λ k h. lower_not_for (get_or es k None) a b (sym (right_of (get_or es i None) (get_or es k None) a b is) ∙ f.rise k i h within))

    none_behind : first_cost admits n (drop (i + 1) es) a b ≡ None
    none_behind = none_in_back admits n es (i + 1) a b at
      where
        at : (k : ℕ) → i + 1 ≤ k → is_for (get_or es k None) a b ≡ false
        at k h = ⊎_elim
            (λ (l : k < count). false_from_ne_true (is_for (get_or es k None) a b) (λ e. not_itself a b (sym (left_of (get_or es i None) a b a b is) ∙ sym (right_of (get_or es k None) (get_or es i None) a b e) ∙ f.rise i k (omega arith) l)))
            (λ (l : count ≤ k). ap (λ x. is_for x a b) (no_some (get_or es k None) (f.clear k l)))
            (cases_lt k count)

    pub found_cost : first_cost admits n es a b ≡ cost_for admits n (get_or es i None) a b
    found_cost =
        first_split es i inside a b
        ∙ ap (λ o. or_else o (or_else (cost_for admits n (get_or es i None) a b) (first_cost admits n (drop (i + 1) es) a b))) none_before
        ∙ some_or (cost_for admits n (get_or es i None) a b) _ (cost_some admits n (get_or es i None) a b (f.live i within) is)

    pub held_cost : (d : Option (Entry C)) → option_map (λ e. e.cost) (get_or es i d) ≡ first_cost admits n es a b
    held_cost d = ap (option_map (λ e. e.cost)) (get_or_default es i d None inside) ∙ own (get_or es i None) (f.live i within) is ∙ sym found_cost
      where
        own : (x : Option (Entry C)) → is_some (live admits n x) ≡ true → is_for x a b ≡ true → option_map (λ e. e.cost) x ≡ cost_for admits n x a b
        own None s h = absurd (false≢true s)
        own (Some e) s h =
            let is = (lives (Some e) s).2 in
            grind arith

    -- it has no cost for another pair
    elsewhere : (c d : ℕ) → (eqb a c && eqb b d) ≡ false → cost_for admits n (get_or es i None) c d ≡ None
    elsewhere c d other = cost_none admits n (get_or es i None) c d (false_from_ne_true (is_for (get_or es i None) c d) (λ e. both_ways (eqb a c && eqb b d) other (one_pair (get_or es i None) a b c d is e)))

    -- another entry for the pair in its place
    pub first_put : (x : C) → possible n a b ≡ true → admits x ≡ true → (c d : ℕ) → first_cost admits n (set es i (Some (record { from = a; to = b; cost = x }))) c d ≡ put (first_cost admits n es) a b (Some x) c d
    first_put x pair good c d =
        let e : Option (Entry C) = Some (record { from = a; to = b; cost = x }) in
        let own : cost_for admits n e c d ≡ cond (eqb a c && eqb b d) (Some x) None = rw (pair, good) in
        ap (λ l. first_cost admits n l c d) (set_split es i e inside ∙ ap (λ k. take i es ++ e ∷ drop k es) (sym (add-one i)))
        ∙ first_append (take i es) (e ∷ drop (i + 1) es) c d
        ∙ ap (λ o. or_else (first_cost admits n (take i es) c d) (or_else o (first_cost admits n (drop (i + 1) es) c d))) own
        ∙ by_test (eqb a c && eqb b d) refl
      where
        by_test : (t : Bool) → (eqb a c && eqb b d) ≡ t → or_else (first_cost admits n (take i es) c d) (or_else (cond t (Some x) None) (first_cost admits n (drop (i + 1) es) c d)) ≡ cond t (Some x) (first_cost admits n es c d)
        by_test true e = ap (λ o. or_else o (Some x)) (at_pair (first_cost admits n (take i es)) a b c d e none_before)
        by_test false e =
            ap (λ o. or_else (first_cost admits n (take i es) c d) (or_else o (first_cost admits n (drop (i + 1) es) c d))) (sym (elsewhere c d e)) ∙ sym (first_split es i inside c d)

    -- the entry taken out
    pub first_down : (c d : ℕ) → first_cost admits n (shifted_down es i) c d ≡ put (first_cost admits n es) a b None c d
    first_down c d =
        first_push (remove es i) None c d
        ∙ none_or (first_cost admits n (remove es i) c d)
        ∙ first_append (take i es) (drop (suc i) es) c d
        ∙ ap (λ k. or_else (first_cost admits n (take i es) c d) (first_cost admits n (drop k es) c d)) (sym (add-one i))
        ∙ by_test (eqb a c && eqb b d) refl
      where
        by_test : (t : Bool) → (eqb a c && eqb b d) ≡ t → or_else (first_cost admits n (take i es) c d) (first_cost admits n (drop (i + 1) es) c d) ≡ cond t None (first_cost admits n es c d)
        by_test true e = λ j. or_else (at_pair (first_cost admits n (take i es)) a b c d e none_before j) (at_pair (first_cost admits n (drop (i + 1) es)) a b c d e none_behind j)
        by_test false e =
            ap (λ o. or_else (first_cost admits n (take i es) c d) (or_else o (first_cost admits n (drop (i + 1) es) c d))) (sym (elsewhere c d e)) ∙ sym (first_split es i inside c d)

  -- the place of a pair that has no entry: behind those of lower pairs, before those of higher ones
  module _ (count i : ℕ) (es : List (Option (Entry C))) (f : InOrder admits n count es) (a b : ℕ) (none : NoneAt admits n count es a b i) where
    lower_ones : (k : ℕ) → k < i → is_lower (get_or es k None) a b ≡ true
    lower_ones k h = not-false (is_lower (get_or es k None) a b) (fails_before_first (λ e. not (is_lower e a b)) es k None (subst (λ p. k < p) none.1 h))

    here : i < count → is_lower (get_or es i None) a b ≡ false
    here h =
        not-true (is_lower (get_or es i None) a b) (ap (λ p. not (is_lower (get_or es p None) a b)) none.1 ∙ passes_at_first (λ e. not (is_lower e a b)) es None (subst (λ p. p < length es) none.1 (omega (arith, f.few))))

    higher_ones : (x : C) (k : ℕ) → i ≤ k → k < count → lower (Some (record { from = a; to = b; cost = x })) (get_or es k None) ≡ true
    higher_ones x k le h =
        let other : is_for (get_or es i None) a b ≡ false = false_from_ne_true (is_for (get_or es i None) a b) (λ is.
        false≢true (sym (ap is_some (none.2)) ∙ ap is_some (found_cost count i es f a b (omega arith) is) ∙ cost_some admits n (get_or es i None) a b (f.live i (omega arith)) is)) in
        let first = higher (get_or es i None) (record { from = a; to = b; cost = x }) (some_live admits n (get_or es i None) (f.live i (omega arith))) (here (omega arith)) other in
        ⊎_elim
        (λ (s : k ≡ i). ap (λ j. lower (Some (record { from = a; to = b; cost = x })) (get_or es j None)) s ∙ first)
        (λ (ne : k ≡ i → ⊥). behind (get_or es i None) (get_or es k None) (record { from = a; to = b; cost = x }) first (f.rise i k (omega (arith, ne)) h))
        (cases_eq k i)

    pub sorted_between : (x : C) → count < length es → is_some (live admits n (Some (record { from = a; to = b; cost = x }))) ≡ true → InOrder admits n (count + 1) (shifted_up es i (Some (record { from = a; to = b; cost = x })))
    sorted_between x room alive = sorted_up admits n count i es (record { from = a; to = b; cost = x }) f none.0 room alive lower_ones (higher_ones x)

  -- an entry put in at i, for a pair that had none
  module _ (count i : ℕ) (es : List (Option (Entry C))) (f : InOrder admits n count es) (a b : ℕ) (within : i ≤ count) (room : count < length es) (none : first_cost admits n es a b ≡ None) where
    pub first_up : (x : C) → possible n a b ≡ true → admits x ≡ true → (c d : ℕ) → first_cost admits n (shifted_up es i (Some (record { from = a; to = b; cost = x }))) c d ≡ put (first_cost admits n es) a b (Some x) c d
    first_up x pair good c d =
        let e : Option (Entry C) = Some (record { from = a; to = b; cost = x }) in
        let own : cost_for admits n e c d ≡ cond (eqb a c && eqb b d) (Some x) None = rw (pair, good) in
        sym (whole e)
        ∙ first_append (take i es) (e ∷ drop i es) c d
        ∙ ap (λ o. or_else (first_cost admits n (take i es) c d) (or_else o (first_cost admits n (drop i es) c d))) own
        ∙ by_test (eqb a c && eqb b d) refl
      where
        split : (p q : ℕ) → first_cost admits n es p q ≡ or_else (first_cost admits n (take i es) p q) (first_cost admits n (drop i es) p q)
        split p q = ap (λ l. first_cost admits n l p q) (sym (take-append-drop i es)) ∙ first_append (take i es) (drop i es) p q

        -- what falls away has no card
        whole : (e : Option (Entry C)) → first_cost admits n (insert es i e) c d ≡ first_cost admits n (shifted_up es i e) c d
        whole e =
            ap (λ l. first_cost admits n l c d) (sym (take-append-drop (length es) (insert es i e)))
            ∙ first_append (shifted_up es i e) (drop (length es) (insert es i e)) c d
            ∙ ap (or_else (first_cost admits n (shifted_up es i e) c d)) (none_in_back admits n (insert es i e) (length es) c d past)
            ∙ none_or (first_cost admits n (shifted_up es i e) c d)
          where
            past : (k : ℕ) → length es ≤ k → is_for (get_or (insert es i e) k None) c d ≡ false
            past k h =
                let s : k ≡ (k - 1) + 1 = omega (arith, room) in
                ap (λ j. is_for (get_or (insert es i e) j None) c d) s
                ∙ ap (λ x. is_for x c d) (get_or-insert_above es i e None (k - 1) (omega arith) (omega arith) ∙ no_some (get_or es (k - 1) None) (f.clear (k - 1) (omega arith)))

        by_test : (t : Bool) → (eqb a c && eqb b d) ≡ t → or_else (first_cost admits n (take i es) c d) (or_else (cond t (Some x) None) (first_cost admits n (drop i es) c d)) ≡ cond t (Some x) (first_cost admits n es c d)
        by_test true e = ap (λ o. or_else o (Some x)) (at_pair (first_cost admits n (take i es)) a b c d e (or_none (first_cost admits n (take i es) a b) _ (sym (split a b) ∙ none)))
        by_test false e = sym (split c d)

  module _ (es : List (Option (Entry C))) (fits : true ≡ list_fits n (length es)) where
    pub list_card_is : (a b : ℕ) → list_card admits n es a b ≡ first_cost admits n es a b
    list_card_is a b = rw (← fits)

    list_count : how_many n (list_card admits n es) ≡ how_many n (first_cost admits n es)
    list_count = ap (how_many n) (fun_ext (λ a. fun_ext (λ b. list_card_is a b)))

    list_free : (listed admits n es).free ≡ length es - how_many n (list_card admits n es)
    list_free = rw (← fits)

-- calls, from what they find
module _ {C : Type 0} (K : Kind C) (n : ℕ) (es : List (Option (Entry C))) (a b k : ℕ) (size : k ≡ nearest_size n) (judged : possible k a b ≡ true) (fits : true ≡ list_fits n (length es)) (count : ℕ) (f : InOrder (admits K) n count es) where
  ends : possible (nearest_size n) a b ≡ true
  ends = sym (ap (λ j. possible j a b) size) ∙ judged

  good : (a < n) × (b < n) × (a ≡ b → ⊥)
  good =
      let fitting = nearest_fitting n (and_parts (size_fits n) (entries_fit (length es)) (sym fits)).0 in
      possible_parts n a b (sym (ap (λ j. possible j a b) fitting) ∙ ends)

  unsealed : (listed (admits K) n es).sealed a b ≡ false
  unsealed = rw (← fits)

  -- the entries after a call that changes the cards of a and b alone
  module _ (next : List (Option (Entry C))) (long : length next ≡ length es) (o : Option C) (is : (c d : ℕ) → first_cost (admits K) n next c d ≡ put (first_cost (admits K) n es) a b o c d) where
    still : true ≡ list_fits n (length next)
    still = fits ∙ ap (list_fits n) (sym long)

    pub next_cards : (c d : ℕ) → list_card (admits K) n next c d ≡ put (list_card (admits K) n es) a b o c d
    next_cards c d = list_card_is (admits K) n next still c d ∙ is c d ∙ ap (cond (eqb a c && eqb b d) o) (sym (list_card_is (admits K) n es fits c d))

    pub next_sealed : (c d : ℕ) → (listed (admits K) n next).sealed c d ≡ (listed (admits K) n es).sealed c d
    next_sealed c d = ap (λ j. not (list_fits n j)) long

    changed : how_many n (list_card (admits K) n next) + bit (list_card (admits K) n es a b) ≡ how_many n (list_card (admits K) n es) + bit o
    changed =
        let same : how_many n (list_card (admits K) n next) ≡ how_many n (put (list_card (admits K) n es) a b o) = ap (how_many n) (fun_ext (λ c. fun_ext (λ d. next_cards c d))) in
        let counts = how_many_put n (list_card (admits K) n es) a b o good.0 good.1 in
        omega arith

    pub next_entered : bit o ≡ 1 → (listed (admits K) n next).free ≡ cond (is_some (list_card (admits K) n es a b)) (listed (admits K) n es).free ((listed (admits K) n es).free - 1)
    next_entered one = by_test (is_some (list_card (admits K) n es a b)) refl
      where
        by_test : (t : Bool) → is_some (list_card (admits K) n es a b) ≡ t → (listed (admits K) n next).free ≡ cond t (listed (admits K) n es).free ((listed (admits K) n es).free - 1)
        by_test true e = let had : bit (list_card (admits K) n es a b) ≡ 1 = rw e in omega (arith, changed, list_free (admits K) n es fits, list_free (admits K) n next still)
        by_test false e = let had : bit (list_card (admits K) n es a b) ≡ 0 = rw e in omega (arith, changed, list_free (admits K) n es fits, list_free (admits K) n next still)

    pub next_withdrawn : bit o ≡ 0 → is_some (list_card (admits K) n es a b) ≡ true → (listed (admits K) n next).free ≡ (listed (admits K) n es).free + 1
    next_withdrawn none e =
        let had : bit (list_card (admits K) n es a b) ≡ 1 = rw e in
        omega (arith, changed, list_free (admits K) n es fits, list_free (admits K) n next still, list_count (admits K) n es fits, counted (admits K) n count es f, f.few)

  pair : possible n a b ≡ true
  pair = possible_ends n a b good.0 good.1 good.2

  module _ (cost : C) (admitted : admits K cost ≡ true) where
    abbrev entry : Option (Entry C)
    entry = Some (record { from = a; to = b; cost = cost })

    pub entry_lives : is_some (live (admits K) n entry) ≡ true
    entry_lives = rw (pair, admitted)

    -- what a granted enter answers and leaves
    abbrev pub Entered : List (Option (Entry C)) → Type 0
    Entered next = (None ≡ first_cause (enter_causes (meant K (listed (admits K) n es)) a b (admits K cost))) × (meant K (listed (admits K) n next) ≡ entered (meant K (listed (admits K) n es)) a b (K.value cost)) × (next ≡ with_entry (admits K) n a b cost es)

    pub entered_over : (i : ℕ) → FoundAt (admits K) n count es a b i → Entered (set es i entry)
    entered_over i (within, place, has) =
        let is = is_for_cost (admits K) n (get_or es i None) a b has in
        let stands : is_some (first_cost (admits K) n es a b) ≡ true = ap is_some (found_cost (admits K) n count i es f a b within is) ∙ has in
        let long = length-set es i entry in
        let cards = first_put (admits K) n count i es f a b within is cost pair admitted in (
          rw admitted (enter_granted K (listed (admits K) n es) (listed (admits K) n es) a b ends unsealed (λ new none. both_ways (is_some (list_card (admits K) n es a b)) new (ap is_some (list_card_is (admits K) n es fits a b) ∙ stands))),
          enter_after K (listed (admits K) n es) (listed (admits K) n (set es i entry)) a b ends cost refl (next_cards (set es i entry) long (Some cost) cards) (next_sealed (set es i entry) long (Some cost) cards) (next_entered (set es i entry) long (Some cost) cards refl),
          ap (λ j. set es j entry) place ∙ sym (cond-true (is_some (first_cost (admits K) n es a b)) _ _ stands),
        )

    module _ (i : ℕ) (none : NoneAt (admits K) n count es a b i) where
      pub full : count ≡ length es → Some (code Register 23 0) ≡ first_cause (enter_causes (meant K (listed (admits K) n es)) a b (admits K cost))
      full all =
          rw admitted (enter_full K (listed (admits K) n es) (listed (admits K) n es) a b ends unsealed (ap is_some (list_card_is (admits K) n es fits a b ∙ none.2)) (omega (arith, list_free (admits K) n es fits, list_count (admits K) n es fits, counted (admits K) n count es f)))

      pub entered_between : count < length es → Entered (shifted_up es i entry)
      entered_between room =
          let next = shifted_up es i entry in
          let long = length_up count i es entry none.0 room f.clear in
          let cards = first_up (admits K) n count i es f a b none.0 room none.2 cost pair admitted in (
            rw admitted (enter_granted K (listed (admits K) n es) (listed (admits K) n es) a b ends unsealed (λ new no_place. omega (arith, list_free (admits K) n es fits, list_count (admits K) n es fits, counted (admits K) n count es f))),
            enter_after K (listed (admits K) n es) (listed (admits K) n next) a b ends cost refl (next_cards next long (Some cost) cards) (next_sealed next long (Some cost) cards) (next_entered next long (Some cost) cards refl),
            ap (λ j. shifted_up es j entry) none.1 ∙ sym (cond-false (is_some (first_cost (admits K) n es a b)) _ _ (ap is_some none.2)),
          )

  -- what a granted withdraw answers and leaves
  module _ (i : ℕ) (found : FoundAt (admits K) n count es a b i) where
    has_card : is_some (list_card (admits K) n es a b) ≡ true
    has_card = ap is_some (list_card_is (admits K) n es fits a b ∙ found_cost (admits K) n count i es f a b found.0 (is_for_cost (admits K) n (get_or es i None) a b found.2)) ∙ found.2

    pub withdrawn_from : (None ≡ first_cause (withdraw_causes (meant K (listed (admits K) n es)) a b)) × (meant K (listed (admits K) n (shifted_down es i)) ≡ withdrawn (meant K (listed (admits K) n es)) a b) × (shifted_down es i ≡ without a b es)
    withdrawn_from =
        let next = shifted_down es i in
        let long = length_down count i es found.0 f.few f.clear in
        let cards = first_down (admits K) n count i es f a b found.0 (is_for_cost (admits K) n (get_or es i None) a b found.2) in (
          withdraw_granted,
          withdraw_after K (listed (admits K) n es) (listed (admits K) n next) a b ends refl (next_cards next long None cards) (next_sealed next long None cards) (next_withdrawn next long None cards refl has_card),
          ap (shifted_down es) found.1,
        )
      where
        withdraw_granted : None ≡ first_cause (withdraw_causes (meant K (listed (admits K) n es)) a b)
        withdraw_granted =
            let h = possible_parts (nearest_size n) a b ends in
            rw (lt-ltb a (nearest_size n) h.0, lt-ltb b (nearest_size n) h.1, ne_eqb a b h.2, unsealed, is_some_mapped K.value (list_card (admits K) n es a b), has_card)

-- a list in cleared memory
pub list_begins : {C : Type 0} (admits : C → Bool) (n : ℕ) (es : List (Option (Entry C))) → listed admits n (list_cleared n es) ≡ begun n (list_fits n (length es)) (length es)
list_begins {C = C} admits n es = by_test (list_fits n (length es)) refl
  where
    by_test : (t : Bool) → list_fits n (length es) ≡ t → listed admits n (cond t (replicate (length es) None) es) ≡ begun n t (length es)
    by_test false e = same_meaning _ _ refl (λ a b. rw e) (λ a b. ap not e) (rw e)
    by_test true e =
        let long = length-replicate {A = Option (Entry C)} (length es) None in
        let fits : true ≡ list_fits n (length (replicate {A = Option (Entry C)} (length es) None)) = sym (ap (list_fits n) long ∙ e) in
        let none : (a b : ℕ) → list_card admits n (replicate (length es) None) a b ≡ None = λ a b. list_card_is admits n (replicate (length es) None) fits a b ∙ no_cost (length es) a b in
        let free : (listed admits n (replicate (length es) None)).free ≡ length es = omega (arith, list_free admits n (replicate (length es) None) fits, how_many_none n (list_card admits n (replicate (length es) None)) none, long) in
        same_meaning _ _ refl none (λ a b. ap not (sym fits)) free
      where
        no_cost : (m a b : ℕ) → first_cost admits n (replicate m None) a b ≡ None
        no_cost zero a b = refl
        no_cost (suc m) a b = no_cost m a b

-- what is known of a value that `ok` takes out
pub ok_at : {X Y : Type 0} (r : Result X Y) (P : X → Type 0) (Q : Y → Type 0) (x : X) → Some x ≡ result_ok r → MatchResult r P Q → P x
ok_at (Ok y) P Q x e h = subst P (sym (same_Some x y e)) h
ok_at (Err y) P Q x e h = absurd (none-some x (sym e))
