-- The costs to one goal: the ways by formats, from the highest down, and the better of two costs in either order.
use Rattle.std.proofs.Common.{◌≡◌, ℕ, ◌+◌, ◌<◌, ◌≤◌, ◌⊎◌, Some, Option, sym, ◌∙◌, subst, inl, inr, arith}
use Rattle.std.proofs.lemmas.Bool.{cases_lt}
use Rattle.costs.specs.Algebra.{Algebra, Lawful}
use Rattle.walks.specs.Walk.{LeastOf}
use Rattle.walks.specs.Theorems.{Either}
use Rattle.walks.specs.Levels.{ByWay}
use Rattle.walks.proofs.Least.{Covers, at_most_self, least_has, least_made, least_serves, least_same, least_cover}

-- two costs combine in either order
pub either_turned : {A : Algebra} (L : Lawful A) (o p q r : Option A.Value) → LeastOf A (Either A o p q) r → LeastOf A (Either A o q p) r
either_turned {A} L o p q r = least_same L (Either A o p q) (Either A o q p) r (turn p q) (turn q p)
  where
    turn : (p q : Option A.Value) (x : A.Value) → Either A o p q x → Either A o q p x
    turn p q x (inl e) = inl e
    turn p q x (inr (a, b, ea, eb, e)) = inr (b, a, eb, ea, e ∙ L.comm a b)

module _ {A : Algebra} (L : Lawful A) (o : Option A.Value) (to on : ℕ → Option A.Value) (goal high : ℕ) where
  pub ways_none : LeastOf A (ByWay A o to on goal high high) o
  ways_none = least_made L (ByWay A o to on goal high high) o (λ x e. inl e) serve
    where
      serve : (y : A.Value) → ByWay A o to on goal high high y → (z : A.Value) × (o ≡ Some z) × (A.Under y z → ⊥)
      serve y (inl e) = (y, e, at_most_self L y)
      serve y (inr (j, l, m, ne, w)) = absurd (omega arith)

  -- one more format, below the others
  pub ways_more : (j : ℕ) (b r : Option A.Value) → j < high → (j ≡ goal → ⊥) → LeastOf A (ByWay A o to on goal (j + 1) high) b → LeastOf A (Either A b (to j) (on j)) r →
      LeastOf A (ByWay A o to on goal j high) r
  ways_more j b r l ne lb = least_cover L (Either A b (to j) (on j)) (ByWay A o to on goal j high) r into cover
    where
      wider : (x : A.Value) → ByWay A o to on goal (j + 1) high x → ByWay A o to on goal j high x
      wider x (inl e) = inl e
      wider x (inr (k, l, m, d, w)) = inr (k, omega arith, m, d, w)

      into : (x : A.Value) → Either A b (to j) (on j) x → ByWay A o to on goal j high x
      into x (inl e) = wider x (least_has L (ByWay A o to on goal (j + 1) high) b x lb e)
      into x (inr w) = inr (j, omega arith, l, ne, w)

      before : (y : A.Value) → ByWay A o to on goal (j + 1) high y → Covers A (Either A b (to j) (on j)) y
      before y w = let s = least_serves L (ByWay A o to on goal (j + 1) high) b lb y w in (s.0, inl s.1, s.2)

      cover : (y : A.Value) → ByWay A o to on goal j high y → Covers A (Either A b (to j) (on j)) y
      cover y (inl e) = before y (inl e)
      cover y (inr (k, m, u, d, (a, c, p, q, e))) = go (cases_lt j k)
        where
          go : (j < k) ⊎ (k ≤ j) → Covers A (Either A b (to j) (on j)) y
          go (inl v) = before y (inr (k, omega arith, u, d, (a, c, p, q, e)))
          go (inr v) =
              let same : k ≡ j = omega arith in
              (y, inr (a, c, subst (λ k. to k ≡ Some a) same p, subst (λ k. on k ≡ Some c) same q, e), at_most_self L y)

  -- the goal is none of them
  pub ways_skip : (j : ℕ) (b : Option A.Value) → j ≡ goal → LeastOf A (ByWay A o to on goal (j + 1) high) b → LeastOf A (ByWay A o to on goal j high) b
  ways_skip j b same = least_same L (ByWay A o to on goal (j + 1) high) (ByWay A o to on goal j high) b into back
    where
      into : (x : A.Value) → ByWay A o to on goal (j + 1) high x → ByWay A o to on goal j high x
      into x (inl e) = inl e
      into x (inr (k, l, m, d, w)) = inr (k, omega arith, m, d, w)

      back : (x : A.Value) → ByWay A o to on goal j high x → ByWay A o to on goal (j + 1) high x
      back x (inl e) = inl e
      back x (inr (k, l, m, d, w)) = inr (k, go (cases_lt j k), m, d, w)
        where
          go : (j < k) ⊎ (k ≤ j) → j + 1 ≤ k
          go (inl v) = omega arith
          go (inr v) = absurd (d (omega arith))

-- ways by costs that agree on the formats that are gone by
pub ways_alike : {A : Algebra} (L : Lawful A) (o b : Option A.Value) (to on to' on' : ℕ → Option A.Value) (goal low high : ℕ) →
    ((j : ℕ) → low ≤ j → j < high → (j ≡ goal → ⊥) → (to j ≡ to' j) × (on j ≡ on' j)) → LeastOf A (ByWay A o to on goal low high) b → LeastOf A (ByWay A o to' on' goal low high) b
ways_alike {A} L o b to on to' on' goal low high same =
    least_same L (ByWay A o to on goal low high) (ByWay A o to' on' goal low high) b
    (turn to on to' on' same) (turn to' on' to on (λ j l m ne. (let s = same j l m ne in (sym s.0, sym s.1))))
  where
    turn : (to on to' on' : ℕ → Option A.Value) → ((j : ℕ) → low ≤ j → j < high → (j ≡ goal → ⊥) → (to j ≡ to' j) × (on j ≡ on' j)) → (x : A.Value) → ByWay A o to on goal low high x → ByWay A o to' on' goal low high x
    turn to on to' on' same x (inl e) = inl e
    turn to on to' on' same x (inr (j, l, m, ne, (a, c, p, q, e))) = let s = same j l m ne in inr (j, l, m, ne, (a, c, sym s.0 ∙ p, sym s.1 ∙ q, e))
