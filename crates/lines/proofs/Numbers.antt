-- Numbers digit by digit: which bytes are read as a number, and which number was read.
-- A number has no more than seven digits, and no zero in front.
use Rattle.std.proofs.Common.{◌≡◌, ℕ, ◌+◌, ◌-◌, ◌*◌, ◌/◌, ◌%◌, ◌<◌, ◌≤◌, true, false, cond, ◌&&◌, eqb, leb, List, [], ◌∷◌, ◌++◌, decimal, sym, refl, ap, ◌∙◌, subst, inl, inr, append_assoc, append-nil, arith}
use Rattle.std.proofs.lemmas.Fmt.{decimal_digit, decimal_step, decimal_by_steps}
use Rattle.std.proofs.lemmas.Bool.{eq-eqb, ne_eqb, eqb-true, leb-true, ltb-true, le-leb, lt-ltb, cond-true, cond-false, cases_Bool, and_from, and_parts, both_ways}
use Rattle.lines.specs.Signs.{digit}
use Rattle.lines.specs.Grammar.{too_large}
use Rattle.lines.specs.Rests.{Rest, dead, over, number, digits, after_byte, grows, until}
use Rattle.lines.specs.declared.line.Line.{Line}
use Rattle.lines.proofs.Runs.{run, run_append, IsOver, not_dead, on_went}

digit_range : (c : ℕ) → digit c ≡ true → (48 ≤ c) × (c ≤ 57)
digit_range c h = (leb-true _ _ (and_parts _ _ h).0, leb-true _ _ (and_parts _ _ h).1)

is_digit : (c : ℕ) → 48 ≤ c → c ≤ 57 → digit c ≡ true
is_digit c l m = and_from _ _ (le-leb _ _ l) (le-leb _ _ m)

grows_range : (n : ℕ) → grows n ≡ true → (0 < n) × (n < 1_000_000)
grows_range n h = (ltb-true _ _ (and_parts _ _ h).0, ltb-true _ _ (and_parts _ _ h).1)

-- the digits of a number are read as that number
reads : (low n : ℕ) (next : ℕ → Rest) → low ≤ 1 → low ≤ n → n < too_large → run (number low next) (decimal n) ≡ digits n next
reads low n next one above small = decimal_by_steps P first more n (omega arith) above small
  where
    P : ℕ → List ℕ → Type 0
    P m ds = low ≤ m → m < too_large → run (number low next) ds ≡ digits m next

    first : (m : ℕ) → m < 10 → P m ((48 + m) ∷ [])
    first m few above small =
        let e : (48 + m) - 48 ≡ m = omega arith in
        cond-true _ (digits ((48 + m) - 48) next) dead (and_from _ _ (is_digit (48 + m) (omega arith) (omega arith)) (le-leb low ((48 + m) - 48) (omega arith)))
        ∙ ap (λ k. digits k next) e

    more : (m : ℕ) (ds : List ℕ) → 10 ≤ m → P (m / 10) ds → P m (ds ++ ((48 + m % 10) ∷ []))
    more m ds ten before above small =
        let c : ℕ = 48 + m % 10 in
        let d : digit c ≡ true = is_digit c (omega arith) (omega arith) in
        let e : (m / 10) * 10 + (c - 48) ≡ m = omega arith in
        run_append (number low next) ds (c ∷ [])
        ∙ ap (λ r. after_byte r c) (before (omega arith) (omega arith))
        ∙ cond-true (digit c) _ (after_byte (next (m / 10)) c) d
        ∙ cond-true (grows (m / 10)) (digits ((m / 10) * 10 + (c - 48)) next) dead
        (and_from _ _ (lt-ltb 0 (m / 10) (omega arith)) (lt-ltb (m / 10) 1_000_000 (omega arith)))
        ∙ ap (λ k. digits k next) e

-- a number, and a byte that ends it
pub run_number : (low n stop : ℕ) (next : ℕ → Rest) (bs : List ℕ) → low ≤ 1 → digit stop ≡ false → low ≤ n → n < too_large → run (number low next) (decimal n ++ (stop ∷ bs)) ≡ run (next n) (stop ∷ bs)
run_number low n stop next bs one apart above small =
    run_append (number low next) (decimal n) (stop ∷ bs)
    ∙ ap (λ r. run r (stop ∷ bs)) (reads low n next one above small)
    ∙ ap (λ r. run r bs) (cond-false (digit stop) _ (after_byte (next n) stop) apart)

pub run_stopped : (low stop n : ℕ) (next : ℕ → Rest) (bs : List ℕ) → low ≤ 1 → digit stop ≡ false → low ≤ n → n < too_large → run (number low (until stop next)) (decimal n ++ (stop ∷ bs)) ≡ run (next n) bs
run_stopped low stop n next bs one apart above small =
    run_number low n stop (until stop next) bs one apart above small
    ∙ ap (λ r. run r bs) (cond-true (eqb stop stop) (next n) dead (eq-eqb stop stop refl))

-- one digit more
grown : (n c : ℕ) → digit c ≡ true → grows n ≡ true → decimal (n * 10 + (c - 48)) ≡ decimal n ++ (c ∷ [])
grown n c d g =
    let l = digit_range c d in
    let m = grows_range n g in
    let e : (n * 10 + (c - 48)) / 10 ≡ n = omega arith in
    let f : 48 + (n * 10 + (c - 48)) % 10 ≡ c = omega arith in
    decimal_step (n * 10 + (c - 48)) (omega arith) (omega arith)
    ∙ ap (λ k. decimal k ++ ((48 + (n * 10 + (c - 48)) % 10) ∷ [])) e
    ∙ ap (λ k. decimal n ++ (k ∷ [])) f

-- the number that was read, where some digits had been read before
record Longer (n : ℕ) (next : ℕ → Rest) (bs : List ℕ) (l : Line) : Type 0 where
  value : ℕ
  more : List ℕ
  rest : List ℕ
  above : n ≤ value
  small : value < too_large
  begins : decimal value ≡ decimal n ++ more
  whole : bs ≡ more ++ rest
  runs : run (next value) rest ≡ over l

longer : (n : ℕ) (next : ℕ → Rest) (bs : List ℕ) (l : Line) → n < too_large → run (digits n next) bs ≡ over l → Longer n next bs l
longer n next [] l small e = absurd (subst IsOver (sym e) tt)
longer n next (c ∷ bs) l small e = elim (cases_Bool (digit c)) [
  | inr f ↦ record {
    value = n;
    more = [];
    rest = c ∷ bs;
    above = omega arith;
    small = small;
    begins = sym (append-nil (decimal n));
    whole = refl;
    runs = sym (ap (λ r. run r bs) (cond-false (digit c) _ (after_byte (next n) c) f)) ∙ e;
  }
  | inl d ↦ elim (cases_Bool (grows n)) [
    | inl t ↦ further d t (longer (n * 10 + (c - 48)) next bs l (fits d t) (sym (step d ∙ ap (λ r. run r bs) (cond-true (grows n) _ dead t)) ∙ e))
    | inr g ↦ absurd (not_dead bs l (sym (step d ∙ ap (λ r. run r bs) (cond-false (grows n) (digits (n * 10 + (c - 48)) next) dead g)) ∙ e))
  ]
]
  where
    step : digit c ≡ true → run (digits n next) (c ∷ bs) ≡ run (cond (grows n) (digits (n * 10 + (c - 48)) next) dead) bs
    step d = ap (λ r. run r bs) (cond-true (digit c) _ (after_byte (next n) c) d)

    fits : digit c ≡ true → grows n ≡ true → n * 10 + (c - 48) < too_large
    fits d g = let a = digit_range c d in let b = grows_range n g in omega arith

    further : digit c ≡ true → grows n ≡ true → Longer (n * 10 + (c - 48)) next bs l → Longer n next (c ∷ bs) l
    further d g k = record {
      value = k.value;
      more = c ∷ k.more;
      rest = k.rest;
      above = omega (arith, k.above);
      small = k.small;
      begins = k.begins ∙ ap (λ x. x ++ k.more) (grown n c d g) ∙ append_assoc (decimal n) (c ∷ []) k.more;
      whole = ap (λ x. c ∷ x) k.whole;
      runs = k.runs;
    }

-- the number that was read, and what is left
pub record Counted (low : ℕ) (next : ℕ → Rest) (bs : List ℕ) (l : Line) : Type 0 where
  pub value : ℕ
  pub rest : List ℕ
  pub above : low ≤ value
  pub small : value < too_large
  pub whole : bs ≡ decimal value ++ rest
  pub runs : run (next value) rest ≡ over l

pub number_began : (low : ℕ) (next : ℕ → Rest) (bs : List ℕ) (l : Line) → run (number low next) bs ≡ over l → Counted low next bs l
number_began low next [] l e = absurd (subst IsOver (sym e) tt)
number_began low next (c ∷ bs) l e = elim (cases_Bool (digit c && leb low (c - 48))) [
  | inl t ↦ further t (longer (c - 48) next bs l (fits t) (sym (ap (λ r. run r bs) (cond-true (digit c && leb low (c - 48)) (digits (c - 48) next) dead t)) ∙ e))
  | inr f ↦ absurd (not_dead bs l (sym (ap (λ r. run r bs) (cond-false (digit c && leb low (c - 48)) (digits (c - 48) next) dead f)) ∙ e))
]
  where
    fits : (digit c && leb low (c - 48)) ≡ true → c - 48 < too_large
    fits t = let a = digit_range c (and_parts _ _ t).0 in omega arith

    further : (digit c && leb low (c - 48)) ≡ true → Longer (c - 48) next bs l → Counted low next (c ∷ bs) l
    further t k =
        let a = digit_range c (and_parts _ _ t).0 in
        let b : low ≤ c - 48 = leb-true low (c - 48) (and_parts (digit c) (leb low (c - 48)) t).1 in
        let f : 48 + (c - 48) ≡ c = omega arith in
        let first : decimal (c - 48) ≡ c ∷ [] = decimal_digit (c - 48) (omega arith) ∙ ap (λ x. x ∷ []) f in
        record {
          value = k.value;
          rest = k.rest;
          above = omega (arith, k.above);
          small = k.small;
          whole = ap (λ x. c ∷ x) k.whole ∙ sym (ap (λ x. x ++ k.rest) (k.begins ∙ ap (λ x. x ++ k.more) first));
          runs = k.runs;
        }

-- the same where one byte ends it
pub record Stopped (low stop : ℕ) (next : ℕ → Rest) (bs : List ℕ) (l : Line) : Type 0 where
  pub value : ℕ
  pub rest : List ℕ
  pub above : low ≤ value
  pub small : value < too_large
  pub whole : bs ≡ decimal value ++ (stop ∷ rest)
  pub runs : run (next value) rest ≡ over l

pub stopped_began : (low stop : ℕ) (next : ℕ → Rest) (bs : List ℕ) (l : Line) → run (number low (until stop next)) bs ≡ over l → Stopped low stop next bs l
stopped_began low stop next bs l e = go (number_began low (until stop next) bs l e)
  where
    go : Counted low (until stop next) bs l → Stopped low stop next bs l
    go k = elim (on_went stop (next k.value) dead k.rest l k.runs) [
      | inl w ↦ record { value = k.value; rest = w.rest; above = k.above; small = k.small; whole = k.whole ∙ ap (λ x. decimal k.value ++ x) w.whole; runs = w.runs }
      | inr d ↦ absurd (not_dead k.rest l d)
    ]
