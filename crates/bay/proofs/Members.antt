-- Bits as members of a set.
use Rattle.std.proofs.Common.{w64, ◌≡◌, ℕ, ◌+◌, ◌-◌, ◌*◌, ◌/◌, ◌%◌, ◌^◌, ◌<◌, ◌≤◌, true, false, not, ◌&&◌, ◌||◌, eqb, ltb, min, max, ◌⊎◌, sym, refl, ap, ◌∙◌, subst, inl, inr, arith}
use lib.Bits.{bit_and}
use Rattle.std.proofs.Math.Nat.{mod-eq_of_lt, one-mul}
use Rattle.std.proofs.Math.Pow.{pow-lt}
use Rattle.std.proofs.lemmas.Nat.{and_le_l, pow_pos, shr-shr}
use Rattle.std.specs.Int.{bit_at, bit_not}
use Rattle.std.specs.Int.RustNames.{bit_or}
use Rattle.std.proofs.lemmas.Bool.{cases_lt, lt-ltb, ne_eqb, le-ltb, both_ways}
use Rattle.std.proofs.lemmas.Nat.Bits.{bit_at-zero, bit_at_and, bit_at_or, bit_at_ones, bit_at_ones_above, bit_at_not, bit_at_above, bit_at_clear_same, bit_at-lt, and_pow}

pub bit_one : (n i : ℕ) → (bit_at n i ≡ 0) ⊎ (bit_at n i ≡ 1)
bit_one n i = go (bit_at n i) refl (bit_at-lt n i)
  where
    go : (b : ℕ) → bit_at n i ≡ b → bit_at n i < 2 → (bit_at n i ≡ 0) ⊎ (bit_at n i ≡ 1)
    go b e l = elim (cases_lt (bit_at n i) 1) [ inl m ↦ inl (omega arith) | inr m ↦ inr (omega arith) ]

-- the bits of a conjunction, a disjunction and a difference
pub and_is : (a b c : ℕ) → (a ≡ 0) ⊎ (a ≡ 1) → (b ≡ 0) ⊎ (b ≡ 1) → c ≡ min a b → eqb c 1 ≡ (eqb a 1 && eqb b 1)
and_is a b c (inl p) (inl q) e = rw (e, p, q) refl
and_is a b c (inl p) (inr q) e = rw (e, p, q) refl
and_is a b c (inr p) (inl q) e = rw (e, p, q) refl
and_is a b c (inr p) (inr q) e = rw (e, p, q) refl

pub or_is : (a b c : ℕ) → (a ≡ 0) ⊎ (a ≡ 1) → (b ≡ 0) ⊎ (b ≡ 1) → c ≡ max a b → eqb c 1 ≡ (eqb a 1 || eqb b 1)
or_is a b c (inl p) (inl q) e = rw (e, p, q) refl
or_is a b c (inl p) (inr q) e = rw (e, p, q) refl
or_is a b c (inr p) (inl q) e = rw (e, p, q) refl
or_is a b c (inr p) (inr q) e = rw (e, p, q) refl

pub not_is : (b c : ℕ) → (b ≡ 0) ⊎ (b ≡ 1) → c ≡ 1 - b → eqb c 1 ≡ not (eqb b 1)
not_is b c (inl q) e = rw (e, q) refl
not_is b c (inr q) e = rw (e, q) refl

pub has_and : (a b f : ℕ) → eqb (bit_at (bit_and a b) f) 1 ≡ (eqb (bit_at a f) 1 && eqb (bit_at b f) 1)
has_and a b f = and_is (bit_at a f) (bit_at b f) _ (bit_one a f) (bit_one b f) (bit_at_and a b f)

pub has_or : (a b f : ℕ) → eqb (bit_at (bit_or a b) f) 1 ≡ (eqb (bit_at a f) 1 || eqb (bit_at b f) 1)
has_or a b f = or_is (bit_at a f) (bit_at b f) _ (bit_one a f) (bit_one b f) (bit_at_or a b f)

pub has_not : (b f : ℕ) → b < 2 ^ 64 → f < 64 → eqb (bit_at (bit_not w64 b) f) 1 ≡ not (eqb (bit_at b f) 1)
has_not b f fits l = not_is (bit_at b f) _ (bit_one b f) (bit_at_not w64 b f fits l)

pub has_above : (b f : ℕ) → b < 2 ^ 64 → 64 ≤ f → eqb (bit_at b f) 1 ≡ false
has_above b f fits l = ap (λ b. eqb b 1) (bit_at_above b 64 f fits l)

pub has_ones : (k f : ℕ) → eqb (bit_at (2 ^ k - 1) f) 1 ≡ ltb f k
has_ones k f = go (cases_lt f k)
  where
    go : (f < k) ⊎ (k ≤ f) → eqb (bit_at (2 ^ k - 1) f) 1 ≡ ltb f k
    go (inl l) = ap (λ b. eqb b 1) (bit_at_ones k f l) ∙ sym (lt-ltb f k l)
    go (inr l) = ap (λ b. eqb b 1) (bit_at_ones_above k f l) ∙ sym (le-ltb f k l)

-- `(1 << k) - 1`
pub low_ones : (k : ℕ) → k < 64 → 1 * 2 ^ k % 18446744073709551616 - 1 ≡ 2 ^ k - 1
low_ones k l = ap (λ p. p - 1) (mod-eq_of_lt (subst (λ p. p < 18446744073709551616) (sym (one-mul (2 ^ k))) (pow-lt {j = 64} l)) ∙ one-mul (2 ^ k))

-- `n & !m` without a bit that n has is less than n
pub clear_less : (n k : ℕ) → k < 64 → eqb (bit_at n k) 1 ≡ true → bit_and n (bit_not w64 (1 * 2 ^ k % 18446744073709551616)) < n
clear_less n k l h =
    let small = and_le_l n (bit_not w64 (1 * 2 ^ k % 18446744073709551616)) in
    let gone = bit_at_clear_same w64 n k l in
    elim (cases_lt (bit_and n (bit_not w64 (1 * 2 ^ k % 18446744073709551616))) n) [
      | inl less ↦ less
      | inr more ↦
          let same : bit_and n (bit_not w64 (1 * 2 ^ k % 18446744073709551616)) ≡ n = omega (arith, small, more) in
          absurd (both_ways _ (ap (λ b. eqb b 1) gone) (subst (λ x. eqb (bit_at x k) 1 ≡ true) (sym same) h))
    ]

pub except_is : (a b f : ℕ) → b < 2 ^ 64 → f < 64 → eqb (bit_at (bit_and a (bit_not w64 b)) f) 1 ≡ (eqb (bit_at a f) 1 && not (eqb (bit_at b f) 1))
except_is a b f fits l = has_and a (bit_not w64 b) f ∙ ap (λ x. eqb (bit_at a f) 1 && x) (has_not b f fits l)

pub except_above : (a b f : ℕ) → a < 2 ^ 64 → 64 ≤ f → eqb (bit_at (bit_and a (bit_not w64 b)) f) 1 ≡ false
except_above a b f fits l = has_above (bit_and a (bit_not w64 b)) f (let less = and_le_l a (bit_not w64 b) in omega (arith, less, fits)) l

-- a bit of what is behind the first k bits
pub bit_behind : (n k i : ℕ) → bit_at (n / 2 ^ k) i ≡ bit_at n (k + i)
bit_behind n k i = ap (λ x. x % 2) (shr-shr n k i)

-- `n & (1 << k) != 0` of a byte
pub byte_bit : (n k : ℕ) → k < 8 → not (eqb (bit_and n (1 * 2 ^ k % 256)) 0) ≡ eqb (bit_at n k) 1
byte_bit n k l =
    let mask : 1 * 2 ^ k % 256 ≡ 2 ^ k = mod-eq_of_lt (subst (λ p. p < 256) (sym (one-mul (2 ^ k))) (pow-lt {j = 8} l)) ∙ one-mul (2 ^ k) in
    ap (λ m. not (eqb (bit_and n m) 0)) mask ∙ ap (λ x. not (eqb x 0)) (and_pow n k) ∙ go (bit_one n k)
  where
    go : (bit_at n k ≡ 0) ⊎ (bit_at n k ≡ 1) → not (eqb (bit_at n k * 2 ^ k) 0) ≡ eqb (bit_at n k) 1
    go (inl e) = let z : 0 * 2 ^ k ≡ 0 = omega arith in ap (λ b. not (eqb (b * 2 ^ k) 0)) e ∙ ap (λ y. not (eqb y 0)) z ∙ sym (ap (λ b. eqb b 1) e)
    go (inr e) = let some = pow_pos k in ap (λ b. not (eqb (b * 2 ^ k) 0)) e ∙ ap not (ne_eqb (1 * 2 ^ k) 0 (λ z. absurd (omega (arith, some, z)))) ∙ sym (ap (λ b. eqb b 1) e)
