-- The worked cases hold. That no walk costs less is shown by a height for each format: no card costs less than it rises.
-- That a rule holds of every card is a test over the list of cards, or over the places of the table.
use Rattle.std.proofs.Common.{◌≡◌, ℕ, zero, suc, ◌<◌, ◌≤◌, min, Bool, true, false, cond, not, ◌&&◌, ◌||◌, T, eqb, ltb, leb, ◌⊎◌, List, [], ◌∷◌, get_or, ℤ, pos, negsuc, ◌+ℤ◌, ◌≤ℤ◌, ◌<ℤ◌, is_some, Some, None, Option, unwrap_or, sym, refl, ap, ◌∙◌, subst, subst₂, inl, inr, ⊎_elim, arith}
use lib.Signed.{le_z}
use Rattle.std.proofs.lemmas.Int.{ints}
use Rattle.std.proofs.lemmas.Bool.{false≢true, and_parts, eqb-true, leb-true, ltb-true, eq-eqb, cases_eq}
use Rattle.costs.specs.DepthLaws.{depth_lawful, same_bits}
use Rattle.costs.specs.Algebra.{Algebra}
use Rattle.costs.specs.Kinds.{delays}
use Rattle.costs.specs.Delay.{delay}
use Rattle.costs.specs.Depth.{depth, Bits, bits, deepest}
use Rattle.costs.specs.Pair.{pair as costs_pair}
use Rattle.std.specs.Option.{option_map}
use Rattle.registers.specs.Meaning.{Meaning, pair, standing, meant}
use Rattle.registers.specs.House.{house}
use Rattle.registers.specs.Bar.{barred}
use Rattle.registers.proofs.Views.{open_standing}
use Rattle.costs.specs.DelayLaws.{delay_lawful}
use Rattle.walks.specs.Walk.{path, FromTo, Walk, cost, WalkCosts, Least, Gains}
use Rattle.walks.proofs.Backwards.{gains_back, least_back}
use Rattle.walks.proofs.Cut.{unit_is_least}
use Rattle.walks.proofs.Runs.{one_or_path, path_from, path_of}
use Rattle.worked.specs.Walks.{cards_of, WorkedCases, even_ring, free_pair, open_house, barred_house, reversed_house, deeper_way, equal_delays, sooner_way, free_deep_pair}

-- a test of a card that stands
abbrev pub passes : {V : Type 0} → (V → Bool) → Option V → Bool
passes f None = true
passes f (Some x) = f x

pub passes_value : {V : Type 0} (f : V → Bool) (o : Option V) (u : V) → passes f o ≡ true → is_some o ≡ true → f (unwrap_or o u) ≡ true
passes_value f None u t h = absurd (false≢true h)
passes_value f (Some x) u t h = t

-- the test f passes at every card
abbrev pub Pass : {V : Type 0} → (ℕ → ℕ → Option V) → (ℕ → ℕ → V → Bool) → Type 0
Pass card f = (a b : ℕ) → passes (f a b) (card a b) ≡ true

-- it does, where it passes at each card of the list
abbrev pub every_card : {V : Type 0} → (ℕ → ℕ → V → Bool) → List (ℕ × ℕ × V) → Bool
every_card f [] = true
every_card f (l ∷ ls) = f l.0 l.1 l.2 && every_card f ls

pub list_passes : {V : Type 0} (f : ℕ → ℕ → V → Bool) (ls : List (ℕ × ℕ × V)) → every_card f ls ≡ true → Pass (cards_of ls) f
list_passes f [] t a b = refl
list_passes f (l ∷ ls) t a b = by (list_passes f ls (and_parts (f l.0 l.1 l.2) (every_card f ls) t).1 a b) (eqb a l.0 && eqb b l.1) refl
  where
    by : passes (f a b) (cards_of ls a b) ≡ true → (k : Bool) → (eqb a l.0 && eqb b l.1) ≡ k → passes (f a b) (cond k (Some l.2) (cards_of ls a b)) ≡ true
    by rest true e =
        let same = and_parts (eqb a l.0) (eqb b l.1) e in
        subst₂ (λ x y. f x y l.2 ≡ true) (sym (eqb-true a l.0 same.0)) (sym (eqb-true b l.1 same.1)) (and_parts (f l.0 l.1 l.2) (every_card f ls) t).0
    by rest false e = rest

-- it does, where it passes at each place of the table
abbrev pub every_below : ℕ → (ℕ → Bool) → Bool
every_below zero f = true
every_below (suc n) f = f n && every_below n f

pub every_below_at : (n : ℕ) (f : ℕ → Bool) → every_below n f ≡ true → (k : ℕ) → k < n → f k ≡ true
every_below_at zero f t k h = absurd (omega arith)
every_below_at (suc n) f t k h =
    let both = and_parts (f n) (every_below n f) t in
    ⊎_elim (λ e. ap f e ∙ both.0) (λ ne. every_below_at n f both.1 k (omega arith)) (cases_eq k n)

abbrev pub every_place : {V : Type 0} → (ℕ → ℕ → V → Bool) → Meaning V → Bool
every_place f m = every_below m.size (λ a. every_below m.size (λ b. passes (f a b) (standing m a b)))

pub table_passes : {V : Type 0} (f : ℕ → ℕ → V → Bool) (m : Meaning V) → every_place f m ≡ true → Pass (standing m) f
table_passes f m t a b = by (pair m a b) refl
  where
    by : (k : Bool) → pair m a b ≡ k → passes (f a b) (standing m a b) ≡ true
    by true e =
        let low = and_parts (ltb a m.size) (ltb b m.size && not (eqb a b)) e in
        let at_row = every_below_at m.size (λ x. every_below m.size (λ y. passes (f x y) (standing m x y))) t a (ltb-true a m.size low.0) in
        every_below_at m.size (λ y. passes (f a y) (standing m a y)) at_row b (ltb-true b m.size (and_parts (ltb b m.size) (not (eqb a b)) low.1).0)
    by false e = ap (λ k. passes (f a b) (cond k (m.cards a b) None)) e

-- where no card costs less than it rises, from the height of its first format to that of its second, no walk does
sum_step : (a b c x y : ℤ) → b ≤ℤ (a +ℤ x) → c ≤ℤ (b +ℤ y) → c ≤ℤ (a +ℤ (x +ℤ y))
sum_step a b c x y p q = omega (arith, ints)

sum_last : (a b x : ℤ) → b ≤ℤ (a +ℤ x) → b ≤ℤ (a +ℤ (x +ℤ pos 0))
sum_last a b x p = omega (arith, ints)

sum_none : (a b x : ℤ) → a ≡ b → x ≡ pos 0 → b ≤ℤ (a +ℤ x)
sum_none a b x e z = omega (arith, ints)

never_below : (a x : ℤ) → a ≤ℤ (a +ℤ x) → x <ℤ pos 0 → ⊥
never_below a x p q = omega (arith, ints)

never_less : (a b x y : ℤ) → b ≤ℤ (a +ℤ y) → b ≡ a +ℤ x → y <ℤ x → ⊥
never_less a b x y p e q = omega (arith, ints)

module _ (card : ℕ → ℕ → Option ℤ) (height : ℕ → ℤ) (rises : Pass card (λ a b c. le_z (height b) (height a +ℤ c))) where
  card_rises : (a b : ℕ) → is_some (card a b) ≡ true → height b ≤ℤ (height a +ℤ unwrap_or (card a b) (pos 0))
  card_rises a b h = record { le = subst T (sym (passes_value (λ c. le_z (height b) (height a +ℤ c)) (card a b) (pos 0) (rises a b) h)) tt }

  walk_rises : (s : ℕ) (ms : List ℕ) (t : ℕ) → Walk delay card (path s ms t) → height t ≤ℤ (height s +ℤ cost delay card (path s ms t))
  walk_rises s [] t w = sum_last (height s) (height t) (unwrap_or (card s t) (pos 0)) (card_rises s t w.0)
  walk_rises s (m ∷ ms) t w =
      sum_step (height s) (height m) (height t) (unwrap_or (card s m) (pos 0)) (cost delay card (path m ms t)) (card_rises s m w.0) (walk_rises m ms t w.1)

  costs_rise : (s t : ℕ) (x : ℤ) → WalkCosts delay card s t x → height t ≤ℤ (height s +ℤ x)
  costs_rise s t x (fs, ends, w, e) = go (one_or_path s t fs ends)
    where
      go : ((s ≡ t) × (fs ≡ s ∷ [])) ⊎ ((ms : List ℕ) × (fs ≡ path s ms t)) → height t ≤ℤ (height s +ℤ x)
      go (inl (same, is)) = sum_none (height s) (height t) x (ap height same) (sym e ∙ ap (cost delay card) is)
      go (inr (ms, is)) = subst (λ z. height t ≤ℤ (height s +ℤ z)) (ap (cost delay card) (sym is) ∙ e) (walk_rises s ms t (rw is at w))

  pub no_gain : Gains delay card → ⊥
  no_gain g = never_below (height g.0) (cost delay card (path g.0 g.1 g.0)) (walk_rises g.0 g.1 g.0 g.2) g.3

  least_by_heights : (s t : ℕ) (x : ℤ) → WalkCosts delay card s t x → height t ≡ height s +ℤ x → Least delay card s t (Some x)
  least_by_heights s t x w e =
      (w, λ y q. never_less (height s) (height t) x y (costs_rise s t y q) e)

-- the heights of a list, format by format
abbrev pub heights : List ℤ → ℕ → ℤ
heights hs v = get_or hs v (pos 0)

implied : (p q : Bool) → (not p || q) ≡ true → p ≡ true → q ≡ true
implied true q h e = h
implied false q h e = absurd (false≢true e)

-- a walk that starts inside a set which no card leaves ends inside it
module _ (A : Algebra) (card : ℕ → ℕ → Option A.Value) (inside : ℕ → Bool) (kept : Pass card (λ a b c. not (inside a) || inside b)) where
  card_stays : (a b : ℕ) → is_some (card a b) ≡ true → inside a ≡ true → inside b ≡ true
  card_stays a b h = implied (inside a) (inside b) (passes_value (λ c. not (inside a) || inside b) (card a b) A.unit (kept a b) h)

  walk_stays : (s : ℕ) (ms : List ℕ) (t : ℕ) → Walk A card (path s ms t) → inside s ≡ true → inside t ≡ true
  walk_stays s [] t w i = card_stays s t w.0 i
  walk_stays s (m ∷ ms) t w i = walk_stays m ms t w.1 (card_stays s m w.0 i)

  no_walk : (s t : ℕ) → inside s ≡ true → inside t ≡ false → Least A card s t None
  no_walk s t i o x (fs, ends, w, e) = go (one_or_path s t fs ends)
    where
      go : ((s ≡ t) × (fs ≡ s ∷ [])) ⊎ ((ms : List ℕ) × (fs ≡ path s ms t)) → ⊥
      go (inl (same, is)) = false≢true (sym o ∙ ap inside (sym same) ∙ i)
      go (inr (ms, is)) = false≢true (sym o ∙ walk_stays s ms t (rw is at w) i)

-- a walk keeps at most the bits of its last card
fewer_first : (a b n : ℕ) → a ≤ n → min a b ≤ n
fewer_first a b n p = omega arith

fewer_second : (a b n : ℕ) → b ≤ n → min a b ≤ n
fewer_second a b n p = omega arith

module _ (card : ℕ → ℕ → Option Bits) (t n : ℕ) (few : Pass card (λ a b c. not (eqb b t) || leb c.count n)) where
  card_keeps : (a : ℕ) → is_some (card a t) ≡ true → (unwrap_or (card a t) (bits deepest)).count ≤ n
  card_keeps a h =
      leb-true _ n (implied (eqb t t) _ (passes_value (λ c. not (eqb t t) || leb c.count n) (card a t) (bits deepest) (few a t) h) (eq-eqb t t refl))

  walk_keeps : (s : ℕ) (ms : List ℕ) → Walk depth card (path s ms t) → (cost depth card (path s ms t)).count ≤ n
  walk_keeps s [] w = fewer_first _ _ n (card_keeps s w.0)
  walk_keeps s (m ∷ ms) w = fewer_second _ _ n (walk_keeps m ms w.1)

  costs_keep : (s : ℕ) (x : Bits) → (s ≡ t → ⊥) → WalkCosts depth card s t x → x.count ≤ n
  costs_keep s x ne (fs, ends, w, e) =
      let (ms, is) = path_of s t fs ne ends in
      subst (λ (z : Bits). z.count ≤ n) (ap (cost depth card) (sym is) ∙ e) (walk_keeps s ms (rw is at w))

  least_by_last : (s : ℕ) (x : Bits) → (s ≡ t → ⊥) → WalkCosts depth card s t x → x.count ≡ n → Least depth card s t (Some x)
  least_by_last s x ne w e = (w, λ y q u. omega (arith, costs_keep s y ne q))

-- The delays of cards that have a depth too.
abbrev pub firsts : (ℕ → ℕ → Option (ℤ × Bits)) → ℕ → ℕ → Option ℤ
firsts card a b = option_map (λ x. x.0) (card a b)

first_is : (o : Option (ℤ × Bits)) → (unwrap_or o (pos 0, bits deepest)).0 ≡ unwrap_or (option_map (λ x. x.0) o) (pos 0)
first_is None = refl
first_is (Some x) = refl

first_stands : (o : Option (ℤ × Bits)) → is_some o ≡ true → is_some (option_map (λ x. x.0) o) ≡ true
first_stands None h = h
first_stands (Some x) h = refl

first_passes : (f : ℤ → Bool) (o : Option (ℤ × Bits)) → passes (λ x. f x.0) o ≡ true → passes f (option_map (λ x. x.0) o) ≡ true
first_passes f None h = h
first_passes f (Some x) h = h

module _ (card : ℕ → ℕ → Option (ℤ × Bits)) where
  walk_firsts : (fs : List ℕ) → Walk (costs_pair delay depth) card fs → Walk delay (firsts card) fs
  walk_firsts [] w = w
  walk_firsts (a ∷ []) w = w
  walk_firsts (a ∷ b ∷ fs) w = (first_stands (card a b) w.0, walk_firsts (b ∷ fs) w.1)

  cost_firsts : (fs : List ℕ) → (cost (costs_pair delay depth) card fs).0 ≡ cost delay (firsts card) fs
  cost_firsts [] = refl
  cost_firsts (a ∷ []) = refl
  cost_firsts (a ∷ b ∷ fs) = λ i. first_is (card a b) i +ℤ cost_firsts (b ∷ fs) i

  -- where no delay gains, no cost does: no depth undercuts the unit
  pub pair_even : (Gains delay (firsts card) → ⊥) → Gains (costs_pair delay depth) card → ⊥
  pair_even even g =
      let fs : List ℕ = path g.0 g.1 g.0 in
      elim g.3 [
        | inl u ↦ even (g.0, g.1, walk_firsts fs g.2, subst (λ z. z <ℤ pos 0) (cost_firsts fs) u)
        | inr v ↦ omega (arith, v.1, (cost (costs_pair delay depth) card fs).1.bound)
      ]

-- heights for each set of cards with no gain; those of the house are the least costs from 4
abbrev ring_heights : ℕ → ℤ
ring_heights = heights (pos 0 ∷ pos 2 ∷ negsuc 1 ∷ [])

abbrev pair_heights : ℕ → ℤ
pair_heights = heights (pos 0 ∷ pos 0 ∷ pos 5 ∷ [])

abbrev house_heights : ℕ → ℤ
house_heights = heights (negsuc 3 ∷ pos 2 ∷ negsuc 1 ∷ negsuc 1 ∷ pos 0 ∷ pos 2 ∷ pos 4 ∷ pos 4 ∷ [])

abbrev pub rising : (ℕ → ℤ) → ℕ → ℕ → ℤ → Bool
rising height a b c = le_z (height b) (height a +ℤ c)

pair_rises : Pass (cards_of free_pair) (rising pair_heights)
pair_rises = list_passes (rising pair_heights) free_pair refl

ring_rises : Pass (cards_of even_ring) (rising ring_heights)
ring_rises = list_passes (rising ring_heights) even_ring refl

house_rises : Pass open_house (rising house_heights)
house_rises = table_passes (rising house_heights) (meant delays house) refl

barred_rises : Pass barred_house (rising house_heights)
barred_rises = table_passes (rising house_heights) (meant delays (barred 1 house)) refl

-- delays and depths, by heights of the delays
pair_of_list_even : (height : ℕ → ℤ) (ls : List (ℕ × ℕ × (ℤ × Bits))) → every_card (λ a b c. rising height a b c.0) ls ≡ true → Gains (costs_pair delay depth) (cards_of ls) → ⊥
pair_of_list_even height ls t =
    pair_even (cards_of ls) (no_gain (firsts (cards_of ls)) height (λ a b. first_passes (rising height a b) (cards_of ls a b) (list_passes (λ x y c. rising height x y c.0) ls t a b)))

pub equal_is_even : Gains (costs_pair delay depth) (cards_of equal_delays) → ⊥
equal_is_even = pair_of_list_even (heights (pos 0 ∷ pos 2 ∷ pos 4 ∷ pos 4 ∷ [])) equal_delays refl

pub sooner_is_even : Gains (costs_pair delay depth) (cards_of sooner_way) → ⊥
sooner_is_even = pair_of_list_even (heights (pos 0 ∷ pos 2 ∷ pos 4 ∷ pos 4 ∷ [])) sooner_way refl

pub free_deep_is_even : Gains (costs_pair delay depth) (cards_of free_deep_pair) → ⊥
free_deep_is_even = pair_of_list_even (heights (pos 0 ∷ pos 0 ∷ pos 5 ∷ [])) free_deep_pair refl

pub barred_is_even : Gains delay barred_house → ⊥
barred_is_even = no_gain barred_house house_heights barred_rises

-- each card of the house, turned round
turned : (a b : ℕ) → reversed_house a b ≡ open_house b a
turned a b = sym (open_standing (λ a b. false) true (meant delays house) a b refl)

-- a closed walk that gains over the cards turned round is one over the cards, backwards
pub reversed_is_even : Gains delay reversed_house → ⊥
reversed_is_even g = no_gain open_house house_heights house_rises (gains_back delay_lawful reversed_house open_house (λ a b. sym (turned b a)) g)

-- no depth undercuts the unit
pub depth_is_even : (card : ℕ → ℕ → Option Bits) → Gains depth card → ⊥
depth_is_even card g = omega (arith, g.3, (cost depth card (path g.0 g.1 g.0)).bound)

-- every format but 0 and 2
abbrev elsewhere : ℕ → Bool
elsewhere v = not (eqb v 0 || eqb v 2)

barred_kept : Pass barred_house (λ a b c. not (elsewhere a) || elsewhere b)
barred_kept = table_passes (λ a b c. not (elsewhere a) || elsewhere b) (meant delays (barred 1 house)) refl

depth_few : Pass (cards_of deeper_way) (λ a b c. not (eqb b 2) || leb c.count 8)
depth_few = list_passes (λ a b c. not (eqb b 2) || leb c.count 8) deeper_way refl

house_4_2 : Least delay open_house 4 2 (Some (negsuc 1))
house_4_2 = least_by_heights open_house house_heights house_rises 4 2 (negsuc 1) (path 4 (3 ∷ 0 ∷ []) 2, path_from 4 (3 ∷ 0 ∷ []) 2, (refl, (refl, (refl, tt))), refl) refl

pub worked_cases : WorkedCases
worked_cases = record {
  ring_gains = (0, 1 ∷ 2 ∷ [], (refl, (refl, (refl, tt))), record { lt = tt });
  ring_is_even = no_gain (cards_of even_ring) ring_heights ring_rises;
  pair_is_even = no_gain (cards_of free_pair) pair_heights pair_rises;
  pair_from_0 = least_by_heights (cards_of free_pair) pair_heights pair_rises 0 2 (pos 5) (path 0 [] 2, path_from 0 [] 2, (refl, tt), refl) refl;
  pair_from_1 = least_by_heights (cards_of free_pair) pair_heights pair_rises 1 2 (pos 5) (path 1 (0 ∷ []) 2, path_from 1 (0 ∷ []) 2, (refl, (refl, tt)), refl) refl;
  elsewhere_gains = (2, 3 ∷ [], (refl, (refl, tt)), record { lt = tt });
  house_is_even = no_gain open_house house_heights house_rises;
  house_4_2 = house_4_2;
  house_chain_4_2 = (((refl, (refl, (refl, tt))), omega arith), refl);
  house_4_6 = least_by_heights open_house house_heights house_rises 4 6 (pos 4) (path 4 (3 ∷ 0 ∷ []) 6, path_from 4 (3 ∷ 0 ∷ []) 6, (refl, (refl, (refl, tt))), refl) refl;
  house_chain_4_6 = (((refl, (refl, (refl, tt))), omega arith), refl);
  house_other_4_6 = (((refl, (refl, (refl, (refl, tt)))), omega arith), refl);
  reversed_2_4 = least_back delay_lawful open_house reversed_house turned 4 2 (Some (negsuc 1)) house_4_2;
  reversed_chain_2_4 = (((refl, (refl, (refl, tt))), omega arith), refl);
  barred_4_2 = no_walk delay barred_house elsewhere barred_kept 4 2 refl refl;
  barred_4_6 = least_by_heights barred_house house_heights barred_rises 4 6 (pos 4) (path 4 (3 ∷ 5 ∷ 1 ∷ []) 6, path_from 4 (3 ∷ 5 ∷ 1 ∷ []) 6, (refl, (refl, (refl, (refl, tt)))), refl) refl;
  barred_chain_4_6 = (((refl, (refl, (refl, (refl, tt)))), omega arith), refl);
  pair_chain_0_0 = ((tt, (tt, tt)), refl);
  pair_0_0 = unit_is_least delay_lawful (cards_of free_pair) (no_gain (cards_of free_pair) pair_heights pair_rises) 0;
  ring_0_0 = λ least. least.1 (negsuc 0) (path 0 (1 ∷ 2 ∷ []) 0, path_from 0 (1 ∷ 2 ∷ []) 0, (refl, (refl, (refl, tt))), refl) (record { lt = tt });
  depth_chain_2_2 = ((tt, (tt, tt)), same_bits _ _ refl);
  depth_2_2 = subst (λ x. Least depth (cards_of deeper_way) 2 2 (Some x)) (same_bits _ _ refl) (unit_is_least depth_lawful (cards_of deeper_way) (depth_is_even (cards_of deeper_way)) 2);
  depth_0_2 = least_by_last (cards_of deeper_way) 2 8 depth_few 0 (bits 8) (λ e. omega arith) (path 0 (1 ∷ []) 2, path_from 0 (1 ∷ []) 2, (refl, (refl, tt)), same_bits _ _ refl) refl;
}
