-- How far the cells of a table have come: each has its least cost over inner formats below a level of its own.
-- A pass by way of k lifts the cells that it writes from level k to the next; the cells that it reads are at level k.
use Rattle.std.proofs.Common.{◌≡◌, ℕ, suc, ◌+◌, ◌-◌, ◌<◌, ◌≤◌, min, ◌⊎◌, Option, sym, refl, subst, inl, inr, arith}
use Rattle.std.proofs.lemmas.Bool.{cases_lt}
use Rattle.costs.specs.declared.Cost.{Ghosts as Kind}
use Rattle.costs.specs.Algebra.{Lawful}
use Rattle.walks.specs.Walk.{Least, LowLeast, LowWalkCosts, GainsAt}
use Rattle.walks.specs.Theorems.{Sound, LookHits}
use Rattle.bay.specs.Cells.{Table, Roomy, Each, least_in}
use Rattle.walks.specs.Levels.{Near, NoLoopBelow}
use Rattle.bay.specs.Eliminated.{Block, PivotReady, Improved, Closes, FirstDone}
use Rattle.walks.proofs.Least.{least_unique}
use Rattle.walks.proofs.Fold.{fold_step}
use Rattle.walks.proofs.Loops.{look_finds, no_hidden_loop}
use Rattle.walks.proofs.Cut.{low_near, least_is_near}
use Rattle.walks.proofs.Stages.{low_zero}

module _ {C : Type 0} (K : Kind C) (n : ℕ) (card : ℕ → ℕ → Option K.algebra.Value) (cells : Table C) where
  -- the first stage before its look at h
  abbrev pub FirstTo : ℕ → Type 0
  FirstTo h = Each K n cells (λ s t. LowLeast K.algebra card (min (min s t) h) s t)

module _ {C : Type 0} (K : Kind C) (L : Lawful K.algebra) (n : ℕ) (card : ℕ → ℕ → Option K.algebra.Value) (sound : Sound K.algebra n card) where
  pub near_low : (h s t : ℕ) (o : Option K.algebra.Value) → h ≤ n → NoLoopBelow K.algebra card h → LowLeast K.algebra card h s t o → Near K.algebra n o
  near_low h s t o l calm low x e =
      let few = sound.small in
      L.within_more (suc h) (suc n) x (omega arith) (omega arith) (low_near L card n sound h l calm s t x (subst (LowLeast K.algebra card h s t) e low))

  -- the first stage
  pub first_none : (cells : Table C) → Each K n cells (λ s t o. o ≡ card s t) → FirstTo K n card cells 0
  first_none cells fresh s t ls lt ne =
      let e : 0 ≡ min (min s t) 0 = omega arith in
      subst (λ h. LowLeast K.algebra card h s t (least_in K n cells s t)) e (subst (LowLeast K.algebra card 0 s t) (sym (fresh s t ls lt ne)) (low_zero L card s t))

  pub first_ready : (cells : Table C) (h : ℕ) → Roomy K n cells → h < n → NoLoopBelow K.algebra card h → FirstTo K n card cells h → PivotReady K n h cells
  first_ready cells h room lh calm to = record {
    roomy = room;
    small = sound.small;
    inside = lh;
    near = λ s ls ne. (
      near_low (min (min s h) h) s h _ (omega arith) (λ k l. calm k (omega arith)) (to s h ls lh ne),
      near_low (min (min h s) h) h s _ (omega arith) (λ k l. calm k (omega arith)) (to h s lh ls (λ e. ne (sym e))),
    );
  }

  pub first_more : (entry exit : Table C) (h : ℕ) → h < n → (GainsAt K.algebra card h → ⊥) → FirstTo K n card entry h →
      Improved K n h (Block (h + 1) n (h + 1) n) entry exit → FirstTo K n card exit (h + 1)
  first_more entry exit h lh calm to i s t ls lt ne = go (cases_lt h (min s t))
    where
      at : (j a b : ℕ) → a < n → b < n → (a ≡ b → ⊥) → min (min a b) h ≡ j → LowLeast K.algebra card j a b (least_in K n entry a b)
      at j a b la lb d e = subst (λ j. LowLeast K.algebra card j a b (least_in K n entry a b)) e (to a b la lb d)

      go : (h < min s t) ⊎ (min s t ≤ h) → LowLeast K.algebra card (min (min s t) (h + 1)) s t (least_in K n exit s t)
      go (inl l) =
          let e : suc h ≡ min (min s t) (h + 1) = omega arith in
          subst (λ j. LowLeast K.algebra card j s t (least_in K n exit s t)) e
          (fold_step L card h s t _ _ _ _ calm (at h s t ls lt ne (omega arith)) (at h s h ls lh (λ d. absurd (omega arith)) (omega arith)) (at h h t lh lt (λ d. absurd (omega arith)) (omega arith))
          (i.hit s t ls lt (omega arith, ls, omega arith, lt)))
      go (inr l) =
          subst (LowLeast K.algebra card (min (min s t) (h + 1)) s t) (sym (i.missed s t ls lt (λ b. absurd (omega arith)))) (at (min (min s t) (h + 1)) s t ls lt ne (omega arith))

  -- what the look at h found
  pub first_looked : (cells : Table C) (h : ℕ) → h < n → NoLoopBelow K.algebra card h → FirstTo K n card cells h →
      (((k : ℕ) × (k < h) × Closes K n cells h k) → GainsAt K.algebra card h) × (((k : ℕ) → k < h → Closes K n cells h k → ⊥) → GainsAt K.algebra card h → ⊥)
  first_looked cells h lh calm to = (λ c. both.0 (c.0, c.1, found c.0 c.1 c.2), λ no. both.1 (λ k l f. no k l (closes k l f)))
    where
      there : (k : ℕ) → k < h → LowLeast K.algebra card k h k (least_in K n cells h k)
      there k l = let e : min (min h k) h ≡ k = omega arith in subst (λ j. LowLeast K.algebra card j h k (least_in K n cells h k)) e (to h k lh (omega arith) (λ d. absurd (omega arith)))

      back : (k : ℕ) → k < h → LowLeast K.algebra card k k h (least_in K n cells k h)
      back k l = let e : min (min k h) h ≡ k = omega arith in subst (λ j. LowLeast K.algebra card j k h (least_in K n cells k h)) e (to k h (omega arith) lh (λ d. absurd (omega arith)))

      found : (k : ℕ) → k < h → Closes K n cells h k → LookHits K.algebra card h k
      found k l (x, (a, b, p, q, e), u) = (a, b, subst (LowLeast K.algebra card k h k) p (there k l), subst (LowLeast K.algebra card k k h) q (back k l), subst (λ y. K.algebra.Under y K.algebra.unit) e u)

      closes : (k : ℕ) → k < h → LookHits K.algebra card h k → Closes K n cells h k
      closes k l (a, b, p, q, u) =
          (K.algebra.join a b, (a, b, least_unique L (LowWalkCosts K.algebra card k h k) _ _ (there k l) p, least_unique L (LowWalkCosts K.algebra card k k h) _ _ (back k l) q, refl), u)

      both : (((k : ℕ) × (k < h) × LookHits K.algebra card h k) → GainsAt K.algebra card h) × (((k : ℕ) → k < h → LookHits K.algebra card h k → ⊥) → GainsAt K.algebra card h → ⊥)
      both = look_finds L n card sound h calm (λ k l. (_, there k l)) (λ k l. (_, back k l))

  -- a cost to the pivot from a higher format
  pub first_there : (cells : Table C) (h s : ℕ) → h < s → s < n → FirstTo K n card cells h → LowLeast K.algebra card h s h (least_in K n cells s h)
  first_there cells h s l ls to =
      let e : min (min s h) h ≡ h = omega arith in
      subst (λ j. LowLeast K.algebra card j s h (least_in K n cells s h)) e (to s h ls (omega arith) (λ d. absurd (omega arith)))

  pub first_all : (cells : Table C) (h : ℕ) → n ≤ h → FirstTo K n card cells h → FirstDone K n card cells
  first_all cells h l to s t ls lt ne =
      let e : min (min s t) h ≡ min s t = omega arith in
      subst (λ j. LowLeast K.algebra card j s t (least_in K n cells s t)) e (to s t ls lt ne)

  pub near_least : (s t : ℕ) (o : Option K.algebra.Value) → NoLoopBelow K.algebra card n → Least K.algebra card s t o → Near K.algebra n o
  near_least s t o calm least x e =
      let few = sound.small in
      L.within_more (n - 1) (suc n) x (omega arith) (omega arith)
      (least_is_near L n card sound (no_hidden_loop L n card sound calm) s t x (subst (Least K.algebra card s t) e least))
