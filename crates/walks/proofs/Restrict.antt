-- The cards up to a format: what they are, and which walks go over them.
-- No closed walk over them undercuts the unit, where no look below that format found one.
use Rattle.std.proofs.Common.{◌≡◌, ℕ, ◌<◌, ◌≤◌, true, false, ◌&&◌, eqb, ltb, leb, ◌⊎◌, List, [], ◌∷◌, is_some, Some, None, Option, sym, refl, ap, ◌∙◌, inl, inr, arith}
use mathlib.Core.Path.{fun_ext}
use Rattle.std.proofs.lemmas.Bool.{false≢true, ltb-true, leb-true, eqb-false, not-true, lt-ltb, le-leb, and_parts, and_from, cases_Bool, cond-true, cond-false}
use Rattle.costs.specs.Algebra.{Algebra, Lawful}
use Rattle.registers.specs.Meaning.{Meaning, pair, standing}
use Rattle.walks.specs.Walk.{Below, Gains}
use Rattle.walks.specs.Levels.{NoLoopBelow}
use Rattle.walks.specs.Levels.{upto}
use Rattle.walks.proofs.Runs.{Runs, to_runs}
use Rattle.walks.proofs.Loops.{no_low_loop}

none_some : {V : Type 0} (x : V) (P : Type 0) → None ≡ Some x → P
none_some x P e = absurd (false≢true (ap is_some e))

-- a standing card leads from a format to another
pub standing_inside : {V : Type 0} (m : Meaning V) (a b : ℕ) (x : V) → standing m a b ≡ Some x → (a < m.size) × (b < m.size) × (a ≡ b → ⊥)
standing_inside m a b x e = go (cases_Bool (pair m a b))
  where
    go : (pair m a b ≡ true) ⊎ (pair m a b ≡ false) → (a < m.size) × (b < m.size) × (a ≡ b → ⊥)
    go (inl h) =
        let p = and_parts (ltb a m.size) _ h in
        let q = and_parts (ltb b m.size) _ p.1 in
        (ltb-true a m.size p.0, ltb-true b m.size q.0, eqb-false a b (not-true (eqb a b) q.1))
    go (inr h) = none_some x _ (sym (cond-false (pair m a b) _ _ h) ∙ e)

module _ {V : Type 0} (high : ℕ) (card : ℕ → ℕ → Option V) where
  pub upto_is : (s t : ℕ) → s < high → t ≤ high → upto high card s t ≡ card s t
  upto_is s t l m = cond-true (ltb s high && leb t high) _ _ (and_from _ _ (lt-ltb s high l) (le-leb t high m))

  pub upto_some : (s t : ℕ) (x : V) → upto high card s t ≡ Some x → (s < high) × (t ≤ high) × (card s t ≡ Some x)
  upto_some s t x e = go (cases_Bool (ltb s high && leb t high))
    where
      go : ((ltb s high && leb t high) ≡ true) ⊎ ((ltb s high && leb t high) ≡ false) → (s < high) × (t ≤ high) × (card s t ≡ Some x)
      go (inl h) = let p = and_parts (ltb s high) _ h in (ltb-true s high p.0, leb-true t high p.1, sym (cond-true (ltb s high && leb t high) _ _ h) ∙ e)
      go (inr h) = none_some x _ (sym (cond-false (ltb s high && leb t high) _ _ h) ∙ e)

pub upto_inside : {V : Type 0} (high n : ℕ) (m : Meaning V) → n ≡ m.size → (a b : ℕ) (x : V) → upto high (standing m) a b ≡ Some x → (a < n) × (b < n) × (a ≡ b → ⊥)
upto_inside high n m size a b x e = let i = standing_inside m a b x (upto_some high (standing m) a b x e).2 in (omega arith, omega arith, i.2)

-- all cards are cards up to the number of formats
pub upto_all : {V : Type 0} (n : ℕ) (card : ℕ → ℕ → Option V) → ((a b : ℕ) (x : V) → card a b ≡ Some x → (a < n) × (b < n) × (a ≡ b → ⊥)) → upto n card ≡ card
upto_all {V} n card inside = fun_ext (λ s. fun_ext (λ t. at s t (card s t) refl))
  where
    at : (s t : ℕ) (o : Option V) → card s t ≡ o → upto n card s t ≡ card s t
    at s t (Some x) e = let i = inside s t x e in upto_is n card s t i.0 (omega arith)
    at s t None e = go (upto n card s t) refl
      where
        go : (o : Option V) → upto n card s t ≡ o → upto n card s t ≡ card s t
        go None f = f ∙ sym e
        go (Some x) f = none_some x _ (sym e ∙ (upto_some n card s t x f).2)

module _ {A : Algebra} (L : Lawful A) (high : ℕ) (card : ℕ → ℕ → Option A.Value) where
  pub upto_runs : (s : ℕ) (ms : List ℕ) (t : ℕ) (x : A.Value) → Runs A (upto high card) s ms t x → (s < high) × Below high ms × Runs A card s ms t x
  upto_runs s [] t x r = let q = upto_some high card s t x r in (q.0, tt, q.2)
  upto_runs s (m ∷ ms) t x (a, b, c, r, e) =
      let q = upto_some high card s m a c in
      let p = upto_runs m ms t b r in
      (q.0, (p.0, p.1), (a, b, q.2, p.2, e))

  pub runs_upto : (s : ℕ) (ms : List ℕ) (x : A.Value) → s < high → Below high ms → Runs A card s ms high x → Runs A (upto high card) s ms high x
  runs_upto s [] x l b r = upto_is high card s high l (omega arith) ∙ r
  runs_upto s (m ∷ ms) x l below (a, b, c, r, e) = (a, b, upto_is high card s m l (omega (arith, below.0)) ∙ c, runs_upto m ms b below.0 below.1 r, e)

  -- the cards up to a format lead out of lower ones only, so a closed walk over them is low
  pub upto_calm : NoLoopBelow A card high → Gains A (upto high card) → ⊥
  upto_calm calm (h, ms, w, under) =
      let r = upto_runs h ms h _ (to_runs L (upto high card) h ms h w) in
      no_low_loop L card high calm h r.0 _ (ms, r.1, r.2) under
