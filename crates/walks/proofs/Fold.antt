-- Walks with low inner formats, and the fold of one more format into the least costs over them.
-- `Low h s t x` is `LowWalkCosts` by its list of inner formats; `Calm h` says that no closed walk at h gains.
use Rattle.std.proofs.Common.{◌≡◌, ℕ, suc, ◌<◌, ◌≤◌, ◌⊎◌, List, [], ◌∷◌, ◌++◌, Some, Option, sym, refl, ap, ◌∙◌, subst, inl, inr, arith}
use Rattle.std.proofs.lemmas.Bool.{cases_order}
use Rattle.costs.specs.Algebra.{Algebra, Lawful}
use Rattle.walks.specs.Walk.{Below, LeastOf, LowWalkCosts, LowLeast, GainsAt}
use Rattle.walks.specs.Theorems.{FoldStep}
use Rattle.walks.proofs.Runs.{Runs, to_runs, of_runs, runs_join}
use Rattle.walks.proofs.Least.{AtMost, Covers, OrJoin, at_most_self, at_most_front, drop_front, least_cover, least_same, least_either}

pub below_mono : (h k : ℕ) (ms : List ℕ) → h ≤ k → Below h ms → Below k ms
below_mono h k [] e b = tt
below_mono h k (m ∷ ms) e b = (omega arith, below_mono h k ms e b.1)

pub below_join : (h : ℕ) (ms ns : List ℕ) → Below h ms → Below h ns → Below h (ms ++ ns)
below_join h [] ns b c = c
below_join h (m ∷ ms) ns b c = (b.0, below_join h ms ns b.1 c)

module _ (A : Algebra) (card : ℕ → ℕ → Option A.Value) where
  abbrev pub Low : ℕ → ℕ → ℕ → A.Value → Type 0
  Low h s t x = (ms : List ℕ) × Below h ms × Runs A card s ms t x

  -- no closed walk at h with inner formats below h undercuts the unit
  abbrev pub Calm : ℕ → Type 0
  Calm h = (x : A.Value) → Low h h h x → AtMost A A.unit x

module _ {A : Algebra} (L : Lawful A) (card : ℕ → ℕ → Option A.Value) where
  pub to_low : (h s t : ℕ) (x : A.Value) → LowWalkCosts A card h s t x → Low A card h s t x
  to_low h s t x w = (w.0, w.1, subst (Runs A card s w.0 t) w.3 (to_runs L card s w.0 t w.2))

  pub of_low : (h s t : ℕ) (x : A.Value) → Low A card h s t x → LowWalkCosts A card h s t x
  of_low h s t x w = let q = of_runs L card s w.0 t x w.2 in (w.0, w.1, q.0, q.1)

  pub calm_at : (h : ℕ) → (GainsAt A card h → ⊥) → Calm A card h
  calm_at h g x w u = let v = of_low h h h x w in g (v.0, v.1, v.2, subst (λ y. A.Under y A.unit) (sym v.3) u)

  pub low_mono : (h k s t : ℕ) (x : A.Value) → h ≤ k → Low A card h s t x → Low A card k s t x
  low_mono h k s t x e w = (w.0, below_mono h k w.0 e w.1, w.2)

  -- a walk to m and one on from there, where m is low
  pub low_join : (h s m t : ℕ) (a b : A.Value) → m < h → Low A card h s m a → Low A card h m t b → Low A card h s t (A.join a b)
  low_join h s m t a b e v w = (v.0 ++ m ∷ w.0, below_join h v.0 (m ∷ w.0) v.1 (e, w.1), runs_join L card s v.0 m w.0 t a b v.2 w.2)

  pub to_least_low : (h s t : ℕ) (o : Option A.Value) → LowLeast A card h s t o → LeastOf A (Low A card h s t) o
  to_least_low h s t o = least_same L (LowWalkCosts A card h s t) (Low A card h s t) o (to_low h s t) (of_low h s t)

  pub of_least_low : (h s t : ℕ) (o : Option A.Value) → LeastOf A (Low A card h s t) o → LowLeast A card h s t o
  of_least_low h s t o = least_same L (Low A card h s t) (LowWalkCosts A card h s t) o (of_low h s t) (to_low h s t)

  abbrev pub Passes : ℕ → ℕ → ℕ → A.Value → Type 0
  Passes h s t = OrJoin A (Low A card h s t) (Low A card h s h) (Low A card h h t)

  -- A walk with inner formats up to h avoids h, or goes to h and on from its last visit there: what lies between the first
  -- visit and the last is closed and does not help.
  pub pass : (h : ℕ) → Calm A card h → (s : ℕ) (ms : List ℕ) (t : ℕ) (x : A.Value) → Below (suc h) ms → Runs A card s ms t x → Covers A (Passes h s t) x
  pass h calm s [] t x b r = (x, inl ([], tt, r), at_most_self L x)
  pass h calm s (m ∷ ms) t x b r = go (cases_order m h) (pass h calm m ms t r.1 b.1 r.3)
    where
      c : A.Value
      c = r.0

      front : (y : A.Value) → AtMost A y r.1 → AtMost A (A.join c y) x
      front y e = at_most_front L c y r.1 x e r.4

      more : (y : A.Value) (k : ℕ) → m < h → Low A card h m k y → Low A card h s k (A.join c y)
      more y k l w = (m ∷ w.0, (l, w.1), (c, y, r.2, w.2, refl))

      go : (m ≡ h) ⊎ ((m < h) ⊎ (h < m)) → Covers A (Passes h m t) r.1 → Covers A (Passes h s t) x
      go (inl e) (y, inl w, d) = (A.join c y, inr (c, y, ([], tt, subst (λ k. card s k ≡ Some c) e r.2), subst (λ k. Low A card h k t y) e w, refl), front y d)
      go (inl e) (y, inr (a, k, v, w, f), d) =
          let loop = calm a (subst (λ n. Low A card h n h a) e v) in
          (A.join c k, inr (c, k, ([], tt, subst (λ n. card s n ≡ Some c) e r.2), w, refl), front k (drop_front L a k y r.1 loop f d))
      go (inr (inl l)) (y, inl w, d) = (A.join c y, inl (more y t l w), front y d)
      go (inr (inl l)) (y, inr (a, k, v, w, f), d) = (A.join c y, inr (A.join c a, k, more a h l v, w, ap (A.join c) f ∙ sym (L.assoc c a k)), front y d)
      go (inr (inr l)) p = absurd (omega arith)

  passed : (h s t : ℕ) (x : A.Value) → Passes h s t x → Low A card (suc h) s t x
  passed h s t x (inl w) = low_mono h (suc h) s t x (omega arith) w
  passed h s t x (inr (a, b, v, w, e)) =
      subst (Low A card (suc h) s t) (sym e) (low_join (suc h) s h t a b (omega arith) (low_mono h (suc h) s h a (omega arith) v) (low_mono h (suc h) h t b (omega arith) w))

pub fold_step : {A : Algebra} → Lawful A → FoldStep A
fold_step {A} L card h s t o p q r g lo lp lq lr =
    of_least_low L card (suc h) s t r
    (least_cover L (Passes L card h s t) (Low A card (suc h) s t) r (passed L card h s t) (λ x w. pass L card h (calm_at L card h g) s w.0 t x w.1 w.2)
    (least_either L (Low A card h s t) (Low A card h s h) (Low A card h h t) o p q r (to_least_low L card h s t o lo) (to_least_low L card h s h p lp) (to_least_low L card h h t q lq) lr))
