-- Our own table: each of its numbers may stand at its index, and no closed walk gains. For there is a height for each format such that
-- no card costs less than the heights of its ends fall: around a closed walk they fall by nothing.
use Rattle.std.proofs.Common.{◌≡◌, ℕ, zero, suc, ◌+◌, ◌*◌, ◌/◌, ◌%◌, ◌<◌, Bool, true, false, not, ◌&&◌, ◌⊎◌, eqb, leb, List, [], ◌∷◌, length, get_or, ℤ, pos, negsuc, nat_abs, ◌+ℤ◌, ◌≤ℤ◌, is_some, Some, None, Option, sym, refl, ap, ◌∙◌, inl, inr, subst, subst₂, arith}
use Rattle.std.specs.Option.{option_map}
use Rattle.std.proofs.lemmas.Bool.{false≢true, and_parts, leb-true, cases_Bool, cond-true, cond-false, eqb-false, eqb-true, not-true}
use Rattle.std.proofs.lemmas.Int.{ints}
use Rattle.std.proofs.lemmas.List.{get_or-map}
use Rattle.std.proofs.lemmas.Nat.{div-mul-add, mod-mul-add}
use Rattle.costs.specs.Delay.{delay, most_half_lines}
use Rattle.costs.specs.DelayLaws.{delay_lawful}
use Rattle.costs.specs.Kinds.{delays}
use Rattle.costs.specs.declared.delay.Delay.{Delay}
use Rattle.registers.specs.House.{delayed, house, house_cards, house_places, house_size, number}
use Rattle.registers.specs.Meaning.{Meaning, meant, pair, possible, standing, stands}
use Rattle.registers.proofs.Meanings.{possible_ends, possible_parts}
use Rattle.walks.specs.Walk.{Gains}
use Rattle.walks.proofs.Restrict.{standing_inside}
use Rattle.walks.proofs.Runs.{Runs, to_runs}
use Rattle.tables.specs.Tables.{Gaining, PassesCheck, Suits, card_at, card_of, no_card, own_numbers, table_of}

-- a test of each item of a list by its index
abbrev tests : {X : Type 0} → (ℕ → X → Bool) → ℕ → List X → Bool
tests f i [] = true
tests f i (x ∷ xs) = f i x && tests f (suc i) xs

tests_at : {X : Type 0} (f : ℕ → X → Bool) (i : ℕ) (xs : List X) (d : X) (k : ℕ) → tests f i xs ≡ true → k < length xs → f (i + k) (get_or xs k d) ≡ true
tests_at f i [] d k t l = absurd (omega (arith, l))
tests_at f i (x ∷ xs) d zero t l =
    let n : i ≡ i + 0 = omega arith in
    subst (λ j. f j x ≡ true) n (and_parts (f i x) (tests f (suc i) xs) t).0
tests_at f i (x ∷ xs) d (suc k) t l =
    let n : suc i + k ≡ i + suc k = omega arith in
    subst (λ j. f j (get_or xs k d) ≡ true) n (tests_at f (suc i) xs d k (and_parts (f i x) (tests f (suc i) xs) t).1 (omega (arith, l)))

tested : {X : Type 0} (f : ℕ → X → Bool) (xs : List X) (d : X) (k : ℕ) → tests f 0 xs ≡ true → k < length xs → f k (get_or xs k d) ≡ true
tested f xs d k t l =
    let n : 0 + k ≡ k = omega arith in
    subst (λ j. f j (get_or xs k d) ≡ true) n (tests_at f 0 xs d k t l)

module _ (card : ℕ → ℕ → Option ℤ) (height : ℕ → ℕ) (falls : (a b : ℕ) (x : ℤ) → card a b ≡ Some x → pos (height b) ≤ℤ (x +ℤ pos (height a))) where
  walk_falls : (s : ℕ) (ms : List ℕ) (t : ℕ) (x : ℤ) → Runs delay card s ms t x → pos (height t) ≤ℤ (x +ℤ pos (height s))
  walk_falls s [] t x r = falls s t x r
  walk_falls s (m ∷ ms) t x (a, b, c, r, e) =
      let one = falls s m a c in
      let rest = walk_falls m ms t b r in
      omega (arith, ints)

  pub level_calm : Gains delay card → ⊥
  level_calm (h, ms, w, under) = let all = walk_falls h ms h _ (to_runs delay_lawful card h ms h w) in omega (arith, ints, under)

-- how much a walk can still give back from a format on, at most
abbrev height : ℕ → ℕ
height f = get_or (0 ∷ 2 ∷ 0 ∷ 2 ∷ 4 ∷ 2 ∷ 0 ∷ 0 ∷ []) f 0

-- what is tested of the cards of our own table, each with its index: a card may have its delay, it leads to another format, and it
-- falls by no more than the heights do
abbrev fine : ℕ → Option ℤ → Bool
fine k None = true
fine k (Some z) = leb (nat_abs z) most_half_lines

abbrev apart : ℕ → Option ℤ → Bool
apart k None = true
apart k (Some z) = not (eqb (k / house_size) (k % house_size))

abbrev level : ℕ → Option ℤ → Bool
level k None = true
level k (Some (pos n)) = leb (height (k % house_size)) (n + height (k / house_size))
level k (Some (negsuc n)) = leb (suc n + height (k % house_size)) (height (k / house_size))

level_falls : (k : ℕ) (x : ℤ) → level k (Some x) ≡ true → pos (height (k % house_size)) ≤ℤ (x +ℤ pos (height (k / house_size)))
level_falls k (pos n) t = let h = leb-true (height (k % house_size)) (n + height (k / house_size)) t in omega (arith, ints)
level_falls k (negsuc n) t = let h = leb-true (suc n + height (k % house_size)) (height (k / house_size)) t in omega (arith, ints)

abbrev own_at : (k : ℕ) → Option ℤ
own_at k = get_or house_cards k None

-- what our own table holds at an index, as a number
number_at : (k : ℕ) → k < house_places → get_or own_numbers k no_card ≡ number (own_at k)
number_at k l = get_or-map number house_cards k None no_card l

card_read : (k : ℕ) (o : Option ℤ) → fine k o ≡ true → card_of (number o) ≡ option_map delayed o
card_read k None t = refl
card_read k (Some z) t = cond-true (leb (nat_abs z) most_half_lines) (Some (delayed z)) None t

pub own_card : (k : ℕ) → k < house_places → card_at own_numbers k ≡ option_map delayed (own_at k)
own_card k l = ap card_of (number_at k l) ∙ card_read k (own_at k) (tested fine house_cards None k refl l)

delay_is : (o : Option ℤ) (x : ℤ) → option_map (λ d. d.half_lines) (option_map delayed o) ≡ Some x → o ≡ Some x
delay_is None x e = absurd (false≢true (ap is_some e))
delay_is (Some z) x e = e

place_inside : (a b : ℕ) → a < house_size → b < house_size → a * house_size + b < house_places
place_inside a b l m = omega arith

standing_held : {V : Type 0} (m : Meaning V) (a b : ℕ) (x : V) → standing m a b ≡ Some x → m.cards a b ≡ Some x
standing_held m a b x e = go (cases_Bool (pair m a b))
  where
    go : (pair m a b ≡ true) ⊎ (pair m a b ≡ false) → m.cards a b ≡ Some x
    go (inl h) = sym (cond-true (pair m a b) _ _ h) ∙ e
    go (inr h) = absurd (false≢true (ap is_some (sym (cond-false (pair m a b) _ _ h) ∙ e)))

module _ (m : Meaning Delay) (size : m.size ≡ house_size) (cards : (k : ℕ) → (a b : ℕ) → a * house_size + b ≡ k → k < house_places → m.cards a b ≡ option_map delayed (own_at k)) where
  own_falls : (a b : ℕ) (x : ℤ) → stands delays m a b ≡ Some x → pos (height b) ≤ℤ (x +ℤ pos (height a))
  own_falls a b x e =
      let i = standing_inside (meant delays m) a b x e in
      let la : a < house_size = omega arith in
      let lb : b < house_size = omega arith in
      let l = place_inside a b la lb in
      let k = a * house_size + b in
      let held : m.cards a b ≡ option_map delayed (own_at k) = cards k a b refl l in
      let is : own_at k ≡ Some x = delay_is (own_at k) x (ap (option_map (λ d. d.half_lines)) (sym held) ∙ standing_held (meant delays m) a b x e) in
      let t = tested level house_cards None k refl l in
      subst₂ (λ c d. pos (height d) ≤ℤ (x +ℤ pos (height c))) (div-mul-add a house_size b lb) (mod-mul-add a house_size b lb)
      (level_falls k x (subst (λ o. level k o ≡ true) is t))

  pub own_calm : Gains delay (stands delays m) → ⊥
  own_calm = level_calm (stands delays m) height own_falls

pub house_calm : Gains delay (stands delays house) → ⊥
house_calm = own_calm house refl (λ k a b e l. ap (λ j. option_map delayed (own_at j)) e)

own_no_loop : Gaining own_numbers → ⊥
own_no_loop = own_calm (table_of own_numbers) refl (λ k a b e l. ap (card_at own_numbers) e ∙ own_card k l)

suits_of : (k : ℕ) (o : Option ℤ) → fine k o ≡ true → apart k o ≡ true → Suits k (number o)
suits_of k None t u = inl refl
suits_of k (Some z) t u = inr (eqb-false (k / house_size) (k % house_size) (not-true _ u), t)

-- our own table passes the check
pub own_passes : PassesCheck own_numbers
own_passes = record {
  long = refl;
  suit = λ k l. subst (Suits k) (sym (number_at k l)) (suits_of k (own_at k) (tested fine house_cards None k refl l) (tested apart house_cards None k refl l));
  no_loop = own_no_loop;
}

-- what is read of our own table, card by card
read_back : (o : Option ℤ) → option_map (λ d. d.half_lines) (option_map delayed o) ≡ o
read_back None = refl
read_back (Some z) = refl

none_on_diagonal : (k : ℕ) (o : Option ℤ) → apart k o ≡ true → eqb (k / house_size) (k % house_size) ≡ true → o ≡ None
none_on_diagonal k None t e = refl
none_on_diagonal k (Some z) t e = absurd (false≢true (sym (ap not e) ∙ t))

same_ends : (n a b : ℕ) → eqb a b ≡ true → possible n a b ≡ false
same_ends n a b e = go (cases_Bool (possible n a b))
  where
    go : (possible n a b ≡ true) ⊎ (possible n a b ≡ false) → possible n a b ≡ false
    go (inl h) = absurd ((possible_parts n a b h).2 (eqb-true a b e))
    go (inr h) = h

house_stands : (k : ℕ) → k < house_places → stands delays house (k / house_size) (k % house_size) ≡ own_at k
house_stands k l = go (cases_Bool (eqb (k / house_size) (k % house_size)))
  where
    go : (eqb (k / house_size) (k % house_size) ≡ true) ⊎ (eqb (k / house_size) (k % house_size) ≡ false) → stands delays house (k / house_size) (k % house_size) ≡ own_at k
    go (inl e) =
        let none = none_on_diagonal k (own_at k) (tested apart house_cards None k refl l) e in
        cond-false (possible house_size (k / house_size) (k % house_size)) _ _ (same_ends house_size _ _ e) ∙ sym none
    go (inr e) =
        let can : possible house_size (k / house_size) (k % house_size) ≡ true = possible_ends house_size _ _ (omega arith) (omega arith) (eqb-false _ _ e) in
        let is : k / house_size * house_size + k % house_size ≡ k = omega arith in
        cond-true (possible house_size (k / house_size) (k % house_size)) _ _ can ∙ ap (λ j. option_map (λ d. d.half_lines) (option_map delayed (own_at j))) is ∙ read_back (own_at k)

pub own_read : (k : ℕ) → k < house_places → (o : Option Delay) → option_map (λ d. d.half_lines) o ≡ stands delays house (k / house_size) (k % house_size) →
    number (option_map (λ d. d.half_lines) o) ≡ get_or own_numbers k no_card
own_read k l o e = ap number (e ∙ house_stands k l) ∙ sym (number_at k l)
