-- Counting the rows that the first stage goes through: row by row at one pivot, and pivot after pivot.
use Rattle.std.proofs.Common.{◌≡◌, ℕ, suc, zero, ◌+◌, ◌<◌, ◌≤◌, Bool, true, false, ◌⊎◌, List, [], ◌∷◌, ◌++◌, length, Contains, AllPairs, is_some, Some, None, Option, sym, refl, ap, ◌∙◌, subst, inl, inr, arith}
use mir.Val.{bool_byte}
use Rattle.std.proofs.lemmas.Bool.{cases_lt, false≢true}
use Rattle.std.proofs.lemmas.List.{length-append}
use Rattle.std.proofs.lemmas.List.Elements.{Contains-get_or, Contains-append_left, Contains-push, Contains-push_cases}
use Rattle.std.proofs.lemmas.List.Quantifiers.{all_pairs_push}
use Rattle.costs.specs.Algebra.{Algebra, Lawful}
use Rattle.walks.specs.Walk.{LowLeast}
use Rattle.walks.specs.Theorems.{Sound}
use Rattle.walks.proofs.Runs.{to_runs}
use Rattle.walks.proofs.Loops.{runs_inside}
use Rattle.bay.specs.Eliminated.{Tally}
use Rattle.bay.specs.RowsPassed.{LeadsLow, RowsPassed}

none_in : {X : Type 0} (x : X) → Contains [] x → ⊥
none_in x c = absurd (omega (arith, c.1))

pub tally_none : (p : ℕ → Bool) (low : ℕ) → Tally p low low 0
tally_none p low = ([], λ i j d l m. absurd (omega arith), λ i c. absurd (none_in i c), λ i l m e. absurd (omega arith), refl)

-- one more that has the property
pub tally_yes : (p : ℕ → Bool) (low j k : ℕ) → low ≤ j → p j ≡ true → Tally p low j k → Tally p low (j + 1) (k + 1)
tally_yes p low j k l e (rows, rise, each, all, count) = (
  rows ++ j ∷ [],
  all_pairs_push (λ a b. a < b) rows j rise (λ i d m. (each _ (Contains-get_or rows i d m)).1),
  λ i c. elim (Contains-push_cases rows j i c) [
    | inl b ↦ let q = each i b in (q.0, omega (arith, q.1), q.2)
    | inr same ↦ (omega arith, omega arith, subst (λ i. p i ≡ true) same e)
  ],
  λ i m u f. elim (cases_lt i j) [
    | inl b ↦ Contains-append_left rows (j ∷ []) i (all i m b f)
    | inr b ↦ let same : j ≡ i = omega arith in subst (Contains (rows ++ j ∷ [])) same (Contains-push rows j)
  ],
  omega (arith, count, length-append rows (j ∷ [])),
)

-- one more that has not
pub tally_no : (p : ℕ → Bool) (low j k : ℕ) → low ≤ j → p j ≡ false → Tally p low j k → Tally p low (j + 1) k
tally_no p low j k l e (rows, rise, each, all, count) = (
  rows,
  rise,
  λ i c. (let q = each i c in (q.0, omega (arith, q.1), q.2)),
  λ i m u f. elim (cases_lt i j) [
    | inl b ↦ all i m b f
    | inr b ↦ let same : i ≡ j = omega arith in absurd (false≢true (sym e ∙ ap p (sym same) ∙ f))
  ],
  count,
)

-- the next number, where a test tells whether it has the property
pub bool_few : (r : Bool) → bool_byte r ≤ 1
bool_few true = omega arith
bool_few false = omega arith

pub tally_next : (p : ℕ → Bool) (low j k : ℕ) → low ≤ j → (r : Bool) → r ≡ p j → Tally p low j k → Tally p low (j + 1) (k + bool_byte r)
tally_next p low j k l true e t = tally_yes p low j k l (sym e) t
tally_next p low j k l false e t = subst (Tally p low (j + 1)) (omega arith) (tally_no p low j k l (sym e) t)

front : (r : ℕ) (rows : List ℕ) → Contains (r ∷ rows) r
front r rows = (0, omega arith, refl)

later : (r : ℕ) (rows : List ℕ) (s : ℕ) → Contains rows s → Contains (r ∷ rows) s
later r rows s (k, l, e) = (suc k, omega arith, e)

parts : (r : ℕ) (rows : List ℕ) (s : ℕ) → Contains (r ∷ rows) s → (r ≡ s) ⊎ Contains rows s
parts r rows s (zero, l, e) = inl e
parts r rows s (suc k, l, e) = inr (k, omega arith, e)

first_least : (r : ℕ) (rows : List ℕ) → AllPairs (λ i j. i < j) (r ∷ rows) → (s : ℕ) → Contains rows s → r < s
first_least r rows rise s (k, l, e) = subst (λ x. r < x) e (rise 0 (suc k) s (omega arith) (omega arith))

module _ (h : ℕ) where
  -- a list of pairs, and one more for each of the rows
  record Longer (rows : List ℕ) (pairs all : List (ℕ × ℕ)) : Type 0 where
    once : AllPairs (λ p q. p ≡ q → ⊥) all
    each : (j s : ℕ) → Contains all (j, s) → Contains pairs (j, s) ⊎ ((j ≡ h) × Contains rows s)
    kept : (j s : ℕ) → Contains pairs (j, s) → Contains all (j, s)
    more : (s : ℕ) → Contains rows s → Contains all (h, s)
    long : length all ≡ length pairs + length rows

  step : (r : ℕ) (rows : List ℕ) (pairs : List (ℕ × ℕ)) → ((s : ℕ) → Contains rows s → r < s) → (rest : (all : List (ℕ × ℕ)) × Longer rows (pairs ++ (h, r) ∷ []) all) → (all : List (ℕ × ℕ)) × Longer (r ∷ rows) pairs all
  step r rows pairs above (all, rest) = (
    all,
    record {
      once = rest.once;
      each = λ j s c. elim (rest.each j s c) [
        | inl b ↦ elim (Contains-push_cases pairs (h, r) (j, s) b) [
          | inl a ↦ inl a
          | inr e ↦ inr (sym (ap (λ p. p.0) e), subst (Contains (r ∷ rows)) (ap (λ p. p.1) e) (front r rows))
        ]
        | inr b ↦ inr (b.0, later r rows s b.1)
      ];
      kept = λ j s c. rest.kept j s (Contains-append_left pairs ((h, r) ∷ []) (j, s) c);
      more = λ s c. elim (parts r rows s c) [
        | inl e ↦ subst (λ s. Contains all (h, s)) e (rest.kept h r (Contains-push pairs (h, r)))
        | inr b ↦ rest.more s b
      ];
      long = omega (arith, rest.long, length-append pairs ((h, r) ∷ []));
    },
  )

  longer : (rows : List ℕ) (pairs : List (ℕ × ℕ)) → AllPairs (λ i j. i < j) rows → AllPairs (λ p q. p ≡ q → ⊥) pairs → ((s : ℕ) → Contains rows s → Contains pairs (h, s) → ⊥) →
      (all : List (ℕ × ℕ)) × Longer rows pairs all
  longer [] pairs rise once new = (pairs, record { once = once; each = λ j s c. inl c; kept = λ j s c. c; more = λ s c. absurd (none_in s c); long = omega arith })
  longer (r ∷ rows) pairs rise once new =
      step r rows pairs (first_least r rows rise) (longer rows (pairs ++ (h, r) ∷ []) (λ i j d l m. rise (suc i) (suc j) d (omega arith) (omega arith))
      (all_pairs_push (λ p q. p ≡ q → ⊥) pairs (h, r) once (λ k d l e. new r (front r rows) (subst (Contains pairs) e (Contains-get_or pairs k d l))))
      (λ s c b. elim (Contains-push_cases pairs (h, r) (h, s) b) [
        | inl a ↦ new s (later r rows s c) a
        | inr e ↦ absurd (omega (arith, first_least r rows rise s c, ap (λ p. p.1) e))
      ]))

module _ (A : Algebra) (card : ℕ → ℕ → Option A.Value) where
  -- so many rows at the pivots below h
  abbrev pub CountTo : ℕ → ℕ → Type 0
  CountTo h k =
      (pairs : List (ℕ × ℕ)) × AllPairs (λ p q. p ≡ q → ⊥) pairs × ((j s : ℕ) → Contains pairs (j, s) → (j < h) × (j < s) × LeadsLow A card j s) ×
      ((j s : ℕ) → j < h → j < s → LeadsLow A card j s → Contains pairs (j, s)) × (k ≡ length pairs)

  pub count_none : CountTo 0 0
  count_none = ([], λ i j d l m. absurd (omega arith), λ j s c. absurd (none_in (j, s) c), λ j s l. absurd (omega arith), refl)

  -- the rows of one more pivot
  pub count_more : (p : ℕ → Bool) (n h k rows : ℕ) → ((s : ℕ) → h < s → s < n → (p s ≡ true → LeadsLow A card h s) × (LeadsLow A card h s → p s ≡ true)) →
      ((s : ℕ) → LeadsLow A card h s → s < n) → CountTo h k → Tally p (h + 1) n rows → CountTo (h + 1) (k + rows)
  count_more p n h k rows means below (pairs, once, each, all, count) (list, rise, some, every, number) = (
    wide.0,
    wide.1.once,
    λ j s c. elim (wide.1.each j s c) [
      | inl b ↦ let q = each j s b in (omega (arith, q.0), q.1, q.2)
      | inr b ↦
          let q = some s b.1 in
          let lead = (means s (omega (arith, q.0)) q.1).0 q.2 in
          (omega (arith, b.0), omega (arith, b.0, q.0), subst (λ j. LeadsLow A card j s) (sym b.0) lead)
    ],
    λ j s l u w. go j s l u w (cases_lt j h),
    omega (arith, wide.1.long, count, number),
  )
    where
      wide : (all : List (ℕ × ℕ)) × Longer h list pairs all
      wide = longer h list pairs rise once (λ s c b. absurd (omega (arith, (each h s b).0)))

      go : (j s : ℕ) → j < h + 1 → j < s → LeadsLow A card j s → (j < h) ⊎ (h ≤ j) → Contains wide.0 (j, s)
      go j s l u w (inl b) = wide.1.kept j s (all j s b u w)
      go j s l u w (inr b) =
          let same : h ≡ j = omega arith in
          let lead = subst (λ j. LeadsLow A card j s) (sym same) w in
          let lt = below s lead in
          subst (λ j. Contains wide.0 (j, s)) same (wide.1.more s (every s (omega arith) lt ((means s (omega arith) lt).1 lead)))

  pub count_all : (n k : ℕ) → ((h s : ℕ) → LeadsLow A card h s → h < n) → CountTo n k → RowsPassed A card k
  count_all n k below (pairs, once, each, all, count) =
      (pairs, record { once = once; each = λ h s c. (let q = each h s c in (q.1, q.2)); all = λ h s l w. all h s (below h s w) l w }, count)

-- walks stay inside the formats
pub leads_inside : {A : Algebra} (L : Lawful A) (card : ℕ → ℕ → Option A.Value) (n : ℕ) → Sound A n card → (h s : ℕ) → LeadsLow A card h s → (s < n) × (h < n)
leads_inside L card n sound h s (ms, b, w) = let r = runs_inside L card n sound s ms h _ (to_runs L card s ms h w) in (r.0, r.2)

-- a least cost is there just where such a walk is
pub leads_some : (A : Algebra) (card : ℕ → ℕ → Option A.Value) (h s : ℕ) (o : Option A.Value) → LowLeast A card h s h o → (is_some o ≡ true → LeadsLow A card h s) × (LeadsLow A card h s → is_some o ≡ true)
leads_some A card h s None least = (λ e. absurd (false≢true e), λ w. absurd (least _ (w.0, w.1, w.2, refl)))
leads_some A card h s (Some x) least = (λ e. (let (ms, b, w, c) = least.0 in (ms, b, w)), λ w. refl)
