-- What a look through the numbers below h finds.
use Rattle.std.proofs.Common.{◌≡◌, ℕ, ◌<◌, ◌≤◌, Bool, true, false, length, get_or, MatchBool, MatchOption, Some, None, Option, sym, refl, subst, arith}
use Rattle.std.specs.List.{AllWithin, HoldsAt, range_with_len}
use Rattle.std.proofs.lemmas.List.FromFn.{get_or-range_with_len, length-range_with_len}
use Rattle.std.proofs.lemmas.Bool.{true≢false, false≢true}

-- `any` below h says whether some number there has P
pub any_below : (P : ℕ → Type 0) (h : ℕ) (r : Bool) →
    MatchBool r ((k : ℕ) × (k < length (range_with_len 0 h)) × HoldsAt P (range_with_len 0 h) k) (AllWithin (λ (k : ℕ). P k → ⊥) (range_with_len 0 h) 0 (length (range_with_len 0 h))) →
    (r ≡ true → (k : ℕ) × (k < h) × P k) × (r ≡ false → (k : ℕ) → k < h → P k → ⊥)
any_below P h true (k, l, p) =
    let l : k < h = omega (arith, length-range_with_len 0 h) in
    let at : get_or (range_with_len 0 h) k 0 ≡ k = omega (arith, get_or-range_with_len 0 h k 0 l) in
    (λ e. (k, l, subst P at (p 0)), λ e. absurd (true≢false e))
any_below P h false none = (λ e. absurd (false≢true e), λ e k l p. none k 0 (omega arith) (omega (arith, length-range_with_len 0 h)) (subst P (sym (at k l)) p))
  where
    at : (k : ℕ) → k < h → get_or (range_with_len 0 h) k 0 ≡ k
    at k l = omega (arith, get_or-range_with_len 0 h k 0 l)

-- `find` below h finds a number with P, where there is one
pub find_below : (P : ℕ → Type 0) (h : ℕ) (r : Option ℕ) → (v : ℕ) × (v < h) × P v →
    MatchOption r ((k : ℕ) → 0 ≤ k → k < h → P k → ⊥) (λ i. (0 ≤ i) × (i < h) × P i × ((k : ℕ) → 0 ≤ k → k < i → P k → ⊥)) →
    (i : ℕ) × (r ≡ Some i) × (i < h) × P i
find_below P h None (v, l, p) none = absurd (none v (omega arith) l p)
find_below P h (Some i) some (low, l, p, first) = (i, refl, l, p)
