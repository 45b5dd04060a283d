-- A matrix: each pair has a place of its own, so a write there changes the card of that pair and of no other.
use Rattle.std.proofs.Common.{◌≡◌, ℕ, ◌+◌, ◌-◌, ◌*◌, ◌/◌, ◌%◌, ◌<◌, ◌≤◌, Bool, true, false, cond, not, ◌&&◌, eqb, ltb, leb, ◌≢◌, List, ◌++◌, length, get_or, take, drop, set, replicate, is_some, Some, None, Option, sym, refl, ap, ◌∙◌, arith}
use mathlib.Core.Path.{fun_ext}
use Rattle.std.specs.Option.{option_map}
use Rattle.std.proofs.lemmas.Nat.{mul-add-lt, div-mul-add, mod-mul-add}
use Rattle.std.proofs.lemmas.List.{length-set, length-take-le, length-append, length-drop, length-replicate, get_or-set_same, get_or-set_other, get_or_append_left, get_or-replicate}
use Rattle.std.proofs.lemmas.Bool.{and_parts, and_from, both_ways, cond-true, eqb-true, leb-true, eq-eqb}
use Rattle.costs.specs.declared.Cost.{Ghosts as Kind}
use Rattle.costs.specs.Kind.{admits}
use Rattle.registers.specs.Fault.{first_cause}
use Rattle.registers.specs.Meaning.{meant, possible, put, standing, entered, withdrawn, enter_causes, most_formats}
use Rattle.lent.specs.Lent.{size_fits, nearest_size, how_many, begun, readable}
use Rattle.lent.specs.Matrix.{matrix_fits, matrix_card, matrix, matrix_cleared}
use Rattle.registers.proofs.Meanings.{same_meaning, possible_parts, possible_ends, is_some_mapped, stands, enter_granted, enter_after, withdraw_after}
use Rattle.lent.proofs.Totals.{bit, how_many_put, how_many_bound, how_many_none}

pub fitting_size : (n : ℕ) → size_fits n ≡ true → (2 ≤ n) × (n ≤ most_formats)
fitting_size n e = let h = and_parts (leb 2 n) (leb n most_formats) e in (leb-true 2 n h.0, leb-true n most_formats h.1)

pub nearest_fitting : (n : ℕ) → size_fits n ≡ true → nearest_size n ≡ n
nearest_fitting n e = let h = fitting_size n e in omega arith

-- the place of a pair
pub place_below : (n a b p : ℕ) → a < n → b < n → n * n ≤ p → a * n + b < p
place_below n a b p ha hb le = omega (arith, mul-add-lt a n b n ha hb)

pub place_row : (n a b c d : ℕ) → b < n → d < n → a * n + b ≡ c * n + d → a ≡ c
place_row n a b c d hb hd e = sym (div-mul-add a n b hb) ∙ ap (λ p. p / n) e ∙ div-mul-add c n d hd

pub place_column : (n a b c d : ℕ) → b < n → d < n → a * n + b ≡ c * n + d → b ≡ d
place_column n a b c d hb hd e = sym (mod-mul-add a n b hb) ∙ ap (λ p. p % n) e ∙ mod-mul-add c n d hd

module _ {C : Type 0} (admits : C → Bool) (n : ℕ) (places : List (Option C)) (fits : matrix_fits n (length places) ≡ true) where
  pub sizes : (2 ≤ n) × (n ≤ most_formats) × (n * n ≤ length places)
  sizes =
      let h = and_parts (size_fits n) (leb (n * n) (length places)) fits in
      let s = fitting_size n h.0 in
      (s.0, s.1, leb-true (n * n) (length places) h.1)

  card_at : (a b : ℕ) → possible n a b ≡ true → matrix_card admits n places a b ≡ readable admits (get_or places (a * n + b) None)
  card_at a b p = rw (fits, p)

  card_out : (a b : ℕ) → possible n a b ≡ false → matrix_card admits n places a b ≡ None
  card_out a b p = rw (fits, p)

  no_loop : (a : ℕ) → matrix_card admits n places a a ≡ None
  no_loop a = card_out a a (rw (eq-eqb a a refl) (no_more (ltb a n)))
    where
      no_more : (t : Bool) → (t && (t && false)) ≡ false
      no_more true = refl
      no_more false = refl

module _ {C : Type 0} (admits : C → Bool) (n : ℕ) (places : List (Option C)) (fits : matrix_fits n (length places) ≡ true) (a b : ℕ) (ha : a < n) (hb : b < n) (ne : a ≡ b → ⊥) (held : Option C) where
  abbrev pub next : List (Option C)
  next = set places (a * n + b) held

  below : a * n + b < length places
  below = place_below n a b (length places) ha hb (sizes admits n places fits).2

  pub still_fits : matrix_fits n (length next) ≡ true
  still_fits = rw (length-set places (a * n + b) held) fits

  pub card_set : (c d : ℕ) → matrix_card admits n next c d ≡ put (matrix_card admits n places) a b (readable admits held) c d
  card_set c d = by_tests (possible n c d) (eqb a c && eqb b d) refl refl
    where
      at : (eqb a c && eqb b d) ≡ true → (a ≡ c) × (b ≡ d)
      at e = let h = and_parts (eqb a c) (eqb b d) e in (eqb-true a c h.0, eqb-true b d h.1)

      by_tests : (t s : Bool) → possible n c d ≡ t → (eqb a c && eqb b d) ≡ s → matrix_card admits n next c d ≡ cond s (readable admits held) (matrix_card admits n places c d)
      by_tests true true p e =
          let same : c * n + d ≡ a * n + b = let h = at e in ap (λ x. x * n + d) (sym h.0) ∙ ap (λ y. a * n + y) (sym h.1) in
          card_at admits n next still_fits c d p ∙ ap (readable admits) (ap (λ x. get_or next x None) same ∙ get_or-set_same places (a * n + b) held None below)
      by_tests true false p e =
          let h = possible_parts n c d p in
          let apart : c * n + d ≢ a * n + b = λ s. both_ways (eqb a c && eqb b d) e (and_from (eqb a c) (eqb b d) (eq-eqb a c (sym (place_row n c d a b h.1 hb s))) (eq-eqb b d (sym (place_column n c d a b h.1 hb s)))) in
          card_at admits n next still_fits c d p ∙ ap (readable admits) (get_or-set_other places (a * n + b) (c * n + d) held None apart) ∙ sym (card_at admits n places fits c d p)
      by_tests false true p e =
          let h = at e in
          let is : possible n c d ≡ true = rw (← h.0, ← h.1) (possible_ends n a b ha hb ne) in
          absurd (both_ways (possible n c d) p is)
      by_tests false false p e = card_out admits n next still_fits c d p ∙ sym (card_out admits n places fits c d p)

  -- how many cards there are then
  counted : how_many n (matrix_card admits n next) + bit (matrix_card admits n places a b) ≡ how_many n (matrix_card admits n places) + bit (readable admits held)
  counted =
      let same : how_many n (matrix_card admits n next) ≡ how_many n (put (matrix_card admits n places) a b (readable admits held)) = ap (how_many n) (fun_ext (λ c. fun_ext (λ d. card_set c d))) in
      let changed = how_many_put n (matrix_card admits n places) a b (readable admits held) ha hb in
      omega arith

  bounded : (how_many n (matrix_card admits n places) ≤ n * (n - 1)) × (how_many n (matrix_card admits n next) ≤ n * (n - 1))
  bounded = (how_many_bound n _ (no_loop admits n places fits), how_many_bound n _ (no_loop admits n next still_fits))

  free_is : (matrix admits n places).free ≡ n * (n - 1) - how_many n (matrix_card admits n places)
  free_is = rw fits

  free_next : (matrix admits n next).free ≡ n * (n - 1) - how_many n (matrix_card admits n next)
  free_next = rw still_fits

  -- a new pair finds a place, and takes it
  pub room : is_some (readable admits held) ≡ true → is_some (matrix_card admits n places a b) ≡ false → (matrix admits n places).free ≡ 0 → ⊥
  room good new none =
      let one : bit (readable admits held) ≡ 1 = rw good in
      let zero : bit (matrix_card admits n places a b) ≡ 0 = rw new in
      omega (arith, counted, bounded, free_is)

  pub entered_free : is_some (readable admits held) ≡ true → (matrix admits n next).free ≡ cond (is_some (matrix_card admits n places a b)) (matrix admits n places).free ((matrix admits n places).free - 1)
  entered_free good = by_test (is_some (matrix_card admits n places a b)) refl
    where
      one : bit (readable admits held) ≡ 1
      one = rw good

      by_test : (t : Bool) → is_some (matrix_card admits n places a b) ≡ t → (matrix admits n next).free ≡ cond t (matrix admits n places).free ((matrix admits n places).free - 1)
      by_test true e = let had : bit (matrix_card admits n places a b) ≡ 1 = rw e in omega (arith, one, counted, free_is, free_next)
      by_test false e = let had : bit (matrix_card admits n places a b) ≡ 0 = rw e in omega (arith, one, counted, free_is, free_next)

  pub withdrawn_free : is_some (readable admits held) ≡ false → is_some (matrix_card admits n places a b) ≡ true → (matrix admits n next).free ≡ (matrix admits n places).free + 1
  withdrawn_free none had =
      let zero : bit (readable admits held) ≡ 0 = rw none in
      let one : bit (matrix_card admits n places a b) ≡ 1 = rw had in
      omega (arith, counted, bounded, free_is, free_next)

-- a matrix in cleared memory
pub length_cleared : {C : Type 0} (n : ℕ) (places : List (Option C)) → length (matrix_cleared n places) ≡ length places
length_cleared {C = C} n places = by_test (matrix_fits n (length places)) refl
  where
    by_test : (t : Bool) → matrix_fits n (length places) ≡ t → length (cond t (replicate (n * n) None ++ drop (n * n) places) places) ≡ length places
    by_test true e =
        let h = and_parts (size_fits n) (leb (n * n) (length places)) e in
        let le = leb-true (n * n) (length places) h.1 in
        simp (length-append, length-replicate, length-drop) (omega arith)
    by_test false e = refl

pub filled_front : {C : Type 0} (n : ℕ) (places front : List (Option C)) → true ≡ matrix_fits n (length places) → front ≡ replicate (length (take (n * n) places)) None → front ++ drop (n * n) places ≡ matrix_cleared n places
filled_front n places front fits is =
    let h = and_parts (size_fits n) (leb (n * n) (length places)) (sym fits) in
    let long = length-take-le (n * n) places (leb-true (n * n) (length places) h.1) in
    ap (λ l. l ++ drop (n * n) places) (is ∙ ap (λ k. replicate k None) long) ∙ sym (cond-true _ _ _ (sym fits))

pub cleared_begins : {C : Type 0} (admits : C → Bool) (n : ℕ) (places : List (Option C)) → matrix admits n (matrix_cleared n places) ≡ begun n (matrix_fits n (length places)) (n * (n - 1))
cleared_begins {C = C} admits n places =
    let few : n * (n - 1) - how_many n (matrix_card admits n (matrix_cleared n places)) ≡ n * (n - 1) = omega (arith, how_many_none n (matrix_card admits n (matrix_cleared n places)) (no_card (matrix_fits n (length places)) refl)) in
    same_meaning _ _ refl (no_card (matrix_fits n (length places)) refl) (λ a b. ap not same) (ap (λ t. cond t (n * (n - 1) - how_many n (matrix_card admits n (matrix_cleared n places))) 0) same ∙ ap (λ h. cond (matrix_fits n (length places)) h 0) few)
  where
    same : matrix_fits n (length (matrix_cleared n places)) ≡ matrix_fits n (length places)
    same = ap (matrix_fits n) (length_cleared n places)

    no_card : (t : Bool) → matrix_fits n (length places) ≡ t → (a b : ℕ) → matrix_card admits n (matrix_cleared n places) a b ≡ None
    no_card false e a b = rw (same, e)
    no_card true e a b = by_pair (possible n a b) refl
      where
        by_pair : (p : Bool) → possible n a b ≡ p → matrix_card admits n (matrix_cleared n places) a b ≡ None
        by_pair false p = card_out admits n (matrix_cleared n places) (same ∙ e) a b p
        by_pair true p =
            let h = possible_parts n a b p in
            let below = place_below n a b (n * n) h.0 h.1 (omega arith) in
            let is : matrix_cleared n places ≡ replicate (n * n) None ++ drop (n * n) places = rw e in
            card_at admits n (matrix_cleared n places) (same ∙ e) a b p ∙ ap (λ l. readable admits (get_or l (a * n + b) None)) is ∙ ap (readable admits) (get_or_append_left (replicate (n * n) None) (drop (n * n) places) None (a * n + b) (rw length-replicate below) ∙ get_or-replicate (n * n) (a * n + b) None None below)

-- granted calls, from what they find
module _ {C : Type 0} (K : Kind C) (n : ℕ) (places : List (Option C)) (a b k : ℕ) (size : k ≡ nearest_size n) (judged : possible k a b ≡ true) (fits : true ≡ matrix_fits n (length places)) where
  ends : possible (nearest_size n) a b ≡ true
  ends = sym (ap (λ j. possible j a b) size) ∙ judged

  good : (a < n) × (b < n) × (a ≡ b → ⊥)
  good =
      let fitting = nearest_fitting n (and_parts (size_fits n) (leb (n * n) (length places)) (sym fits)).0 in
      possible_parts n a b (sym (ap (λ j. possible j a b) fitting) ∙ ends)

  pub pair_below : a * n + b < length places
  pair_below = place_below n a b (length places) good.0 good.1 (sizes (admits K) n places (sym fits)).2

  unsealed : (matrix (admits K) n places).sealed a b ≡ false
  unsealed = rw (← fits)

  module _ (cost : C) (admitted : admits K cost ≡ true) where
    reads : readable (admits K) (Some cost) ≡ Some cost
    reads = rw admitted

    matrix_enter_answer : None ≡ first_cause (enter_causes (meant K (matrix (admits K) n places)) a b (admits K cost))
    matrix_enter_answer =
        rw admitted (enter_granted K (matrix (admits K) n places) (matrix (admits K) n places) a b ends unsealed (room (admits K) n places (sym fits) a b good.0 good.1 good.2 (Some cost) (ap is_some reads)))

    matrix_enter_after : meant K (matrix (admits K) n (set places (a * n + b) (Some cost))) ≡ entered (meant K (matrix (admits K) n places)) a b (K.value cost)
    matrix_enter_after =
        enter_after K (matrix (admits K) n places) (matrix (admits K) n (set places (a * n + b) (Some cost))) a b ends cost refl
        (λ c d. card_set (admits K) n places (sym fits) a b good.0 good.1 good.2 (Some cost) c d ∙ ap (λ o. put (matrix_card (admits K) n places) a b o c d) reads)
        (λ c d. ap (λ k. not (matrix_fits n k)) (length-set places (a * n + b) (Some cost)))
        (entered_free (admits K) n places (sym fits) a b good.0 good.1 good.2 (Some cost) (ap is_some reads))

    pub matrix_entered : (None ≡ first_cause (enter_causes (meant K (matrix (admits K) n places)) a b (admits K cost))) × (meant K (matrix (admits K) n (set places (a * n + b) (Some cost))) ≡ entered (meant K (matrix (admits K) n places)) a b (K.value cost))
    matrix_entered = (matrix_enter_answer, matrix_enter_after)

  module _ (r : Option C) (is : option_map K.value r ≡ standing (meant K (matrix (admits K) n places)) a b) (had : is_some r ≡ true) where
    stood : is_some (matrix_card (admits K) n places a b) ≡ true
    stood = sym (stands K (matrix (admits K) n places) (matrix (admits K) n places) a b ends) ∙ sym (ap is_some is) ∙ is_some_mapped K.value r ∙ had

    pub matrix_withdraw_after : meant K (matrix (admits K) n (set places (a * n + b) None)) ≡ withdrawn (meant K (matrix (admits K) n places)) a b
    matrix_withdraw_after =
        withdraw_after K (matrix (admits K) n places) (matrix (admits K) n (set places (a * n + b) None)) a b ends refl
        (card_set (admits K) n places (sym fits) a b good.0 good.1 good.2 None)
        (λ c d. ap (λ k. not (matrix_fits n k)) (length-set places (a * n + b) None))
        (withdrawn_free (admits K) n places (sym fits) a b good.0 good.1 good.2 None refl stood)
