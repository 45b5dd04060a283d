-- The house table holds the cards of the definition, and each of them is admitted: two tests over the whole table.
use Rattle.std.proofs.Common.{◌≡◌, ℕ, suc, ◌-◌, ◌<◌, Bool, true, false, leb, map, get_or, ℤ, pos, negsuc, nat_abs, Some, None, Option, sym, refl, ap, ◌∙◌, arith, w32, of_z}
use Rattle.std.specs.Option.{option_map}
use Rattle.std.proofs.lemmas.List.{get_or-map}
use Rattle.std.proofs.lemmas.List.Folds.{list_all_at}
use Rattle.std.proofs.lemmas.Bool.{false≢true, leb-true}
use Rattle.costs.specs.Delay.{most_half_lines}
use Rattle.registers.specs.House.{house_cards, house_places, number, delayed}

pub number_held : (k : ℕ) → k < house_places → get_or (map number house_cards) k (pos 0) ≡ number (get_or house_cards k None)
number_held k h = get_or-map number house_cards k None (pos 0) h

abbrev fine : Option ℤ → Bool
fine None = true
fine (Some z) = leb (nat_abs z) most_half_lines

pub house_admitted : (k : ℕ) → k < house_places → fine (get_or house_cards k None) ≡ true
house_admitted k h = by_test (fine (get_or house_cards k None)) refl
  where
    by_test : (t : Bool) → fine (get_or house_cards k None) ≡ t → t ≡ true
    by_test true e = refl
    by_test false e = absurd (false≢true (sym (list_all_at fine house_cards k None h e)))

-- what a number of the table, of 32 bits, tells of its card
pub none_read : (o : Option ℤ) (z : ℤ) → fine o ≡ true → z ≡ number o → of_z w32 z ≡ 2147483648 → None ≡ option_map delayed o
none_read None z f e is = refl
none_read (Some (pos n)) z f e is =
    let few = leb-true n most_half_lines f in
    let same : n ≡ 2147483648 = ap (of_z w32) (sym e) ∙ is in
    absurd (omega arith)
none_read (Some (negsuc n)) z f e is =
    let few = leb-true (suc n) most_half_lines f in
    let same : 4294967296 - suc n ≡ 2147483648 = ap (of_z w32) (sym e) ∙ is in
    absurd (omega arith)

pub some_read : (o : Option ℤ) (z : ℤ) → fine o ≡ true → z ≡ number o → (of_z w32 z ≡ 2147483648 → ⊥) → (Some (delayed z) ≡ option_map delayed o) × (leb (nat_abs z) most_half_lines ≡ true)
some_read None z f e not = absurd (not (ap (of_z w32) e))
some_read (Some y) z f e not = (ap (λ x. Some (delayed x)) e, ap (λ x. leb (nat_abs x) most_half_lines) e ∙ f)
