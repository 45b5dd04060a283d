-- What the stages of the search need: the least cost from v to the goal, by what is known of the formats below v or above it.
use Rattle.std.proofs.Common.{◌≡◌, ℕ, suc, ◌+◌, ◌<◌, ◌≤◌, ◌⊎◌, List, [], ◌∷◌, ◌++◌, Some, Option, sym, refl, ap, subst, inl, inr, arith}
use Rattle.std.proofs.lemmas.Bool.{cases_lt}
use Rattle.costs.specs.Algebra.{Algebra, Lawful}
use Rattle.walks.specs.Walk.{path, Below, Absent, Distinct, LeastOf, WalkCosts, LowWalkCosts, Least, LowLeast, GainsAt}
use Rattle.walks.specs.Theorems.{Sound}
use Rattle.walks.specs.Levels.{ByWay, NoLoopBelow}
use Rattle.walks.proofs.Runs.{Runs, runs_cost, cost_runs, runs_join, runs_split}
use Rattle.walks.proofs.Least.{AtMost, Serves, Covers, at_most_self, at_most_trans, at_most_joined, drop_back, least_has, least_serves, least_made, least_cover}
use Rattle.walks.proofs.Fold.{Low, Calm, Passes, to_low, of_low, to_least_low, of_least_low, calm_at, low_mono, pass}
use Rattle.walks.proofs.Loops.{runs_inside, no_hidden_loop}
use Rattle.walks.proofs.Cut.{absent_parts, below_absent, distinct_front, chain_of}

-- all formats of the list are up to m, or it is split by the first that is above m
first_high : (m : ℕ) (ms : List ℕ) → Below (suc m) ms ⊎ ((is : List ℕ) × (r : ℕ) × (js : List ℕ) × Below (suc m) is × (m < r) × (ms ≡ is ++ r ∷ js))
first_high m [] = inl tt
first_high m (k ∷ ks) = go (cases_lt m k) (first_high m ks)
  where
    go : (m < k) ⊎ (k ≤ m) → Below (suc m) ks ⊎ ((is : List ℕ) × (r : ℕ) × (js : List ℕ) × Below (suc m) is × (m < r) × (ks ≡ is ++ r ∷ js)) →
        Below (suc m) (k ∷ ks) ⊎ ((is : List ℕ) × (r : ℕ) × (js : List ℕ) × Below (suc m) is × (m < r) × (k ∷ ks ≡ is ++ r ∷ js))
    go (inl l) h = inr ([], k, ks, tt, l, refl)
    go (inr l) (inl b) = inl (omega arith, b)
    go (inr l) (inr (is, r, js, b, m, e)) = inr (k ∷ is, r, js, (omega arith, b), m, ap (λ l. k ∷ l) e)

module _ {A : Algebra} (L : Lawful A) (card : ℕ → ℕ → Option A.Value) where
  -- a walk that passes its own end inside is covered by one that does not
  skip_end : (s t : ℕ) → (GainsAt A card t → ⊥) → (x : A.Value) → Low A card (suc t) s t x → Covers A (Low A card t s t) x
  skip_end s t g x w = go (pass L card t calm s w.0 t x w.1 w.2)
    where
      calm : Calm A card t
      calm = calm_at L card t g

      go : Covers A (Passes L card t s t) x → Covers A (Low A card t s t) x
      go (y, inl v, d) = (y, v, d)
      go (y, inr (a, b, u, v, f), d) = (a, u, drop_back L a b y x (calm b v) f d)

  -- where no closed walk at t through lower formats undercuts the unit, walks that pass t inside cost no less
  pub low_end : (s t : ℕ) (o : Option A.Value) → (GainsAt A card t → ⊥) → LowLeast A card t s t o → LowLeast A card (suc t) s t o
  low_end s t o calm l = of_least_low L card (suc t) s t o (least_cover L (Low A card t s t) (Low A card (suc t) s t) o (λ x w. low_mono L card t (suc t) s t x (omega arith) w) (λ y w. skip_end s t calm y w) (to_least_low L card t s t o l))

  pub low_zero : (s t : ℕ) → LowLeast A card 0 s t (card s t)
  low_zero s t = of_least_low L card 0 s t (card s t) (least_made L (Low A card 0 s t) (card s t) (λ x e. ([], tt, e)) serve)
    where
      serve : (x : A.Value) → Low A card 0 s t x → (z : A.Value) × (card s t ≡ Some z) × AtMost A z x
      serve x ([], b, r) = (x, r, at_most_self L x)
      serve x (m ∷ ms, b, r) = absurd (omega (arith, b.0))

  -- what a format that is not the goal leads on by is covered, where both of its costs are
  by_way : (o : Option A.Value) (to on : ℕ → Option A.Value) (goal low high j : ℕ) (a b y : A.Value) → low ≤ j → j < high → (j ≡ goal → ⊥) →
      Serves A (to j) a → Serves A (on j) b → AtMost A (A.join a b) y → Covers A (ByWay A o to on goal low high) y
  by_way o to on goal low high j a b y l m ne p q u =
      (A.join p.0 q.0, inr (j, l, m, ne, (p.0, q.0, p.1, q.1, refl)), at_most_trans L (A.join p.0 q.0) (A.join a b) y (at_most_joined L p.0 a q.0 b p.2 q.2) u)

  held : (o : Option A.Value) (to on : ℕ → Option A.Value) (goal low high : ℕ) (x y : A.Value) → Serves A o x → AtMost A x y → Covers A (ByWay A o to on goal low high) y
  held o to on goal low high x y s u = (s.0, inl s.1, at_most_trans L s.0 x y s.2 u)

  module _ (n : ℕ) (calm : NoLoopBelow A card n) where
    -- The third stage: a walk from v is cut to a chain, and the chain in two at its first format above v.
    pub third_cell : Sound A n card → (v goal : ℕ) (o : Option A.Value) (to on : ℕ → Option A.Value) (r : Option A.Value) → (v ≡ goal → ⊥) → LowLeast A card v v goal o →
        ((j : ℕ) → v < j → j < n → (j ≡ goal → ⊥) → (LowLeast A card v v j (to j) ⊎ Least A card v j (to j)) × Least A card j goal (on j)) →
        LeastOf A (ByWay A o to on goal (v + 1) n) r → Least A card v goal r
    third_cell sound v goal o to on r apart lo way = least_cover L (ByWay A o to on goal (v + 1) n) (WalkCosts A card v goal) r into cover
      where
        low_walk : (t : ℕ) (x : A.Value) → LowWalkCosts A card v v t x → (ms : List ℕ) × Runs A card v ms t x
        low_walk t x w = let p = to_low L card v v t x w in (p.0, p.2)

        -- a cost to j, through lower formats or through all, is that of a walk, and covers those through lower ones
        there_walk : (j : ℕ) (a : A.Value) → (v ≡ j → ⊥) → LowLeast A card v v j (to j) ⊎ Least A card v j (to j) → to j ≡ Some a → (ms : List ℕ) × Runs A card v ms j a
        there_walk j a ne (inl k) e = low_walk j a (least_has L (LowWalkCosts A card v v j) (to j) a k e)
        there_walk j a ne (inr k) e = cost_runs L card v j a ne (least_has L (WalkCosts A card v j) (to j) a k e)

        there_serves : (j : ℕ) (a : A.Value) → LowLeast A card v v j (to j) ⊎ Least A card v j (to j) → Low A card v v j a → Serves A (to j) a
        there_serves j a (inl k) w = least_serves L (LowWalkCosts A card v v j) (to j) k a (of_low L card v v j a w)
        there_serves j a (inr k) w = least_serves L (WalkCosts A card v j) (to j) k a (runs_cost L card v w.0 j a w.2)

        into : (x : A.Value) → ByWay A o to on goal (v + 1) n x → WalkCosts A card v goal x
        into x (inl e) = let p = low_walk goal x (least_has L (LowWalkCosts A card v v goal) o x lo e) in runs_cost L card v p.0 goal x p.1
        into x (inr (j, l, m, ne, (a, b, e, f, g))) =
            let known = way j (omega arith) m ne in
            let p = there_walk j a (λ e. absurd (omega arith)) known.0 e in
            let q = cost_runs L card j goal b ne (least_has L (WalkCosts A card j goal) (on j) b known.1 f) in
            runs_cost L card v (p.0 ++ j ∷ q.0) goal x (subst (Runs A card v (p.0 ++ j ∷ q.0) goal) (sym g) (runs_join L card v p.0 j q.0 goal a b p.1 q.1))

        split : (ks : List ℕ) (z y : A.Value) → Distinct (path v ks goal) → Runs A card v ks goal z → AtMost A z y →
            Below (suc v) ks ⊎ ((is : List ℕ) × (r : ℕ) × (js : List ℕ) × Below (suc v) is × (v < r) × (ks ≡ is ++ r ∷ js)) → Covers A (ByWay A o to on goal (v + 1) n) y
        split ks z y d w u (inl b) =
            held o to on goal (v + 1) n z y
            (least_serves L (LowWalkCosts A card v v goal) o lo z (of_low L card v v goal z (ks, below_absent v ks b (absent_parts v ks (goal ∷ []) d.0).0, w))) u
        split ks z y d w u (inr (is, r, js, b, l, e)) =
            let cut = runs_split L card v is r js goal z (subst (λ l. Runs A card v l goal z) e w) in
            let low = below_absent v is b (absent_parts v is (r ∷ js) (subst (λ l. Absent v l) e (absent_parts v ks (goal ∷ []) d.0).0)).0 in
            let other = (absent_parts goal is (r ∷ js) (subst (λ l. Absent goal l) e (distinct_front ks goal [] d.1).1)).1.0 in
            let inside = (runs_inside L card n sound v is r cut.0 cut.2).2 in
            let known = way r l inside (λ f. other (sym f)) in
            by_way o to on goal (v + 1) n r cut.0 cut.1 y (omega arith) inside (λ f. other (sym f))
            (there_serves r cut.0 known.0 (is, low, cut.2))
            (least_serves L (WalkCosts A card r goal) (on r) known.1 cut.1 (runs_cost L card r js goal cut.1 cut.3)) (subst (λ x. AtMost A x y) cut.4 u)

        cover : (y : A.Value) → WalkCosts A card v goal y → Covers A (ByWay A o to on goal (v + 1) n) y
        cover y w =
            let p = cost_runs L card v goal y apart w in
            let c = chain_of L card (no_hidden_loop L n card sound calm) v p.0 goal y apart p.1 in
            split c.0 c.1 y c.2 c.3 c.4 (first_high v c.0)
