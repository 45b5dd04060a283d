-- Sums over the formats, and how many pairs have a card once one card is put.
use Rattle.std.proofs.Common.{◌≡◌, ℕ, zero, suc, ◌+◌, ◌-◌, ◌*◌, ◌<◌, ◌≤◌, true, false, cond, ◌&&◌, eqb, ◌≢◌, is_some, Some, None, Option, sym, refl, ap, ◌∙◌, ⊎_elim, suc-mul, arith}
use Rattle.std.proofs.lemmas.Bool.{eq-eqb, ne_eqb, cases_eq}
use Rattle.registers.specs.Meaning.{put}
use Rattle.lent.specs.Lent.{total, how_many}

pub total_same : (n : ℕ) (f g : ℕ → ℕ) → ((k : ℕ) → k < n → f k ≡ g k) → total n f ≡ total n g
total_same zero f g same = refl
total_same (suc n) f g same = omega (arith, same n (omega arith), total_same n f g (λ k h. same k (omega arith)))

-- two sums that differ at one place
pub total_change : (n i : ℕ) (f g : ℕ → ℕ) → i < n → ((k : ℕ) → k ≢ i → f k ≡ g k) → total n f + g i ≡ total n g + f i
total_change zero i f g h same = absurd (omega arith)
total_change (suc n) i f g h same =
    ⊎_elim
    (λ (e : n ≡ i). let rest = total_same n f g (λ k l. same k (omega arith)) in let fe = ap f e in let ge = ap g e in omega arith)
    (λ (ne : n ≡ i → ⊥). omega (arith, same n ne, total_change n i f g (omega arith) same))
    (cases_eq n i)

pub total_none : (n : ℕ) → total n (λ _. 0) ≡ 0
total_none zero = refl
total_none (suc n) = omega (arith, total_none n)

pub total_le : (n m : ℕ) (f : ℕ → ℕ) → ((k : ℕ) → k < n → f k ≤ m) → total n f ≤ n * m
total_le zero m f le = omega arith
total_le (suc n) m f le = omega (arith, le n (omega arith), total_le n m f (λ k h. le k (omega arith)), suc-mul n m)

-- a sum of ones and zeros with a zero in it
total_gap : (n i : ℕ) (f : ℕ → ℕ) → i < n → ((k : ℕ) → f k ≤ 1) → f i ≡ 0 → total n f ≤ n - 1
total_gap n i f h one gap =
    let g : ℕ → ℕ = λ k. cond (eqb k i) 1 (f k) in
    let at : g i ≡ 1 = rw (eq-eqb i i refl) in
    let other : (k : ℕ) → k ≢ i → f k ≡ g k = λ k ne. rw (ne_eqb k i ne) in
    let few : (k : ℕ) → g k ≤ 1 = λ k. elim (eqb k i) as (λ t. cond t 1 (f k) ≤ 1) [ true ↦ omega arith | false ↦ one k ] in
    omega (arith, total_change n i f g h other, total_le n 1 g (λ k _. few k))

-- 1 for a card, 0 for none
abbrev pub bit : {V : Type 0} → Option V → ℕ
bit o = cond (is_some o) 1 0

bit_le : {V : Type 0} (o : Option V) → bit o ≤ 1
bit_le None = omega arith
bit_le (Some x) = omega arith

module _ {V : Type 0} where
  pub put_same : (cards : ℕ → ℕ → Option V) (a b : ℕ) (o : Option V) → put cards a b o a b ≡ o
  put_same cards a b o = rw (eq-eqb a a refl, eq-eqb b b refl)

  pub put_row : (cards : ℕ → ℕ → Option V) (a b : ℕ) (o : Option V) (c d : ℕ) → c ≢ a → put cards a b o c d ≡ cards c d
  put_row cards a b o c d ne = let e : eqb a c ≡ false = ne_eqb a c (λ s. ne (sym s)) in rw e

  pub put_column : (cards : ℕ → ℕ → Option V) (a b : ℕ) (o : Option V) (c d : ℕ) → d ≢ b → put cards a b o c d ≡ cards c d
  put_column cards a b o c d ne =
      let e : eqb b d ≡ false = ne_eqb b d (λ s. ne (sym s)) in
      elim (eqb a c) as (λ t. cond (t && eqb b d) o (cards c d) ≡ cards c d) [ true ↦ rw e | false ↦ refl ]

  pub how_many_put : (n : ℕ) (cards : ℕ → ℕ → Option V) (a b : ℕ) (o : Option V) → a < n → b < n → how_many n (put cards a b o) + bit (cards a b) ≡ how_many n cards + bit o
  how_many_put n cards a b o ha hb =
      let row : (ℕ → ℕ → Option V) → ℕ → ℕ = λ h c. total n (λ d. bit (h c d)) in
      let inner = total_change n b (λ d. bit (put cards a b o a d)) (λ d. bit (cards a d)) hb (λ d ne. ap bit (put_column cards a b o a d ne)) in
      let at : bit (put cards a b o a b) ≡ bit o = ap bit (put_same cards a b o) in
      let outer = total_change n a (row (put cards a b o)) (row cards) ha (λ c ne. total_same n _ _ (λ d _. ap bit (put_row cards a b o c d ne))) in
      omega (arith, inner, at, outer)

  pub how_many_bound : (n : ℕ) (cards : ℕ → ℕ → Option V) → ((a : ℕ) → cards a a ≡ None) → how_many n cards ≤ n * (n - 1)
  how_many_bound n cards none =
      total_le n (n - 1) _ (λ c h. total_gap n c (λ d. bit (cards c d)) h (λ d. bit_le (cards c d)) (ap bit (none c)))

  pub how_many_none : (n : ℕ) (cards : ℕ → ℕ → Option V) → ((a b : ℕ) → cards a b ≡ None) → how_many n cards ≡ 0
  how_many_none n cards none =
      total_same n _ (λ _. 0) (λ c _. total_same n _ (λ _. 0) (λ d _. ap bit (none c d)) ∙ total_none n) ∙ total_none n
