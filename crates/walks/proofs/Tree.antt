-- The tree of tight cards: a set of formats that has t, and each format with a tight card into the set, has every format
-- from which a walk leads to t. Only laws of order are used, no cancellation, so it holds for every cost kind.
use Rattle.std.proofs.Common.{◌≡◌, ℕ, zero, suc, ◌<◌, ◌≤◌, Bool, true, false, ◌⊎◌, List, [], ◌∷◌, ◌++◌, Some, None, Option, sym, refl, ap, ◌∙◌, subst, inl, inr, arith}
use Rattle.std.proofs.lemmas.Bool.{cases_lt, cases_eq, cases_Bool, both_ways}
use Rattle.costs.specs.Algebra.{Algebra, Lawful}
use Rattle.walks.specs.Walk.{LeastOf, WalkCosts, Least, Gains, Tight}
use Rattle.walks.specs.Theorems.{Sound, TreeReaches}
use Rattle.walks.proofs.Runs.{Runs, of_runs, runs_cost, cost_runs, runs_join, join_unit}
use Rattle.walks.proofs.Cut.{unit_is_least}
use Rattle.walks.proofs.Least.{least_serves, least_unique}

-- A transitive relation that leads from no number to itself, and from each number that it leads to further on, cannot stay
-- below n: one may always step past the greatest number, and so lower the bound.
no_climb : (n : ℕ) (R : ℕ → ℕ → Type 0) → ((u w : ℕ) → R u w → w < n) → ((u v w : ℕ) → R u v → R v w → R u w) →
    ((u : ℕ) → R u u → ⊥) → ((u w : ℕ) → R u w → (x : ℕ) × R w x) → (u w : ℕ) → R u w → ⊥
no_climb zero R bound trans irrefl on u w r = omega (arith, bound u w r)
no_climb (suc n) R bound trans irrefl on u w r =
    let q = past u w r in
    no_climb n (λ a b. R a b × (b < n)) (λ a b p. p.1) (λ a b c p q. (trans a b c p.0 q.0, q.1)) (λ a p. irrefl a p.0)
    (λ a b p. past a b p.0) w q.0 q.1
  where
    skip : (w x y : ℕ) → R w x → R x y → (x < n) ⊎ (n ≤ x) → (y < n) ⊎ (n ≤ y) → (z : ℕ) × (R w z × (z < n))
    skip w x y p q (inl l) k = (x, (p, l))
    skip w x y p q (inr g) (inl l) = (y, (trans w x y p q, l))
    skip w x y p q (inr g) (inr k) = absurd (irrefl x (subst (R x) (omega (arith, bound w x p, bound x y q)) q))

    past : (u w : ℕ) → R u w → (x : ℕ) × (R w x × (x < n))
    past u w r =
        let p = on u w r in
        let q = on w p.0 p.1 in
        skip w p.0 q.0 p.1 q.1 (cases_lt p.0 n) (cases_lt q.0 n)

module _ {A : Algebra} (L : Lawful A) where
  -- what does not undercut still does not behind the same cost
  keeps_behind : (a b c : A.Value) → (A.Under b a → ⊥) → A.Under (A.join c b) (A.join c a) → ⊥
  keeps_behind a b c h = rw (L.comm c b, L.comm c a) (L.keeps a b c h)

  -- what x does not undercut undercuts all that x undercuts
  under_from : (a x c : A.Value) → (A.Under x a → ⊥) → A.Under x c → A.Under a c
  under_from a x c h u = go (L.one_of a x)
    where
      go : A.Under a x ⊎ ((a ≡ x) ⊎ A.Under x a) → A.Under a c
      go (inl k) = L.trans a x c k u
      go (inr (inl e)) = rw e u
      go (inr (inr k)) = absurd (h k)

module _ {A : Algebra} (L : Lawful A) (n : ℕ) (card : ℕ → ℕ → Option A.Value) (sound : Sound A n card) (gainless : Gains A card → ⊥)
    (t : ℕ) (d : ℕ → Option A.Value) (least : (v : ℕ) → Least A card v t (d v))
    (tree : ℕ → Bool) (has_t : tree t ≡ true) (closed : (v w : ℕ) → tree w ≡ true → Tight A card d v w → tree v ≡ true) where
  no_gain : (h : ℕ) (ms : List ℕ) (p : A.Value) → Runs A card h ms h p → A.Under p A.unit → ⊥
  no_gain h ms p r u = let q = of_runs L card h ms h p r in gainless (h, ms, q.0, rw q.1 u)

  not_self : (a : A.Value) → A.Under a a → ⊥
  not_self a u = L.not_equal a a u refl

  at_t : d t ≡ Some A.unit
  at_t = least_unique L (WalkCosts A card t t) (d t) (Some A.unit) (least t) (unit_is_least L card gainless t)

  outside : (u : ℕ) → tree u ≡ false → u ≡ t → ⊥
  outside u o e = both_ways (tree u) o (rw e has_t)

  -- where a run leads from v to t, d has a cost that the run does not undercut
  abbrev Onward : ℕ → A.Value → Type 0
  Onward v b = (z : A.Value) × (d v ≡ Some z) × (A.Under b z → ⊥)

  onward : (v : ℕ) (ms : List ℕ) (b : A.Value) → Runs A card v ms t b → Onward v b
  onward v ms b r = least_serves L (WalkCosts A card v t) (d v) (least v) b (runs_cost L card v ms t b r)

  -- a way of u into the tree: a card to a format of the tree, and on from there at the least cost, e in all
  abbrev Way : ℕ → A.Value → Type 0
  Way u e = (y : ℕ) × (c : A.Value) × (z : A.Value) × (tree y ≡ true) × (card u y ≡ Some c) × (d y ≡ Some z) × (e ≡ A.join c z)

  -- where u has a way, a run from u to t costs as much
  way_runs : (u : ℕ) (e : A.Value) → Way u e → (ms : List ℕ) × Runs A card u ms t e
  way_runs u e (y, c, z, i, k, s, j) = split (cases_eq y t)
    where
      split : (y ≡ t) ⊎ (y ≡ t → ⊥) → (ms : List ℕ) × Runs A card u ms t e
      split (inl q) = ([], let h = join_unit L card c in let u = at_t in cc)
      split (inr ne) = let q = cost_runs L card y t z ne (rw s at (least y)).0 in (y ∷ q.0, (c, z, k, q.1, j))

  -- a run of u to a format w outside the tree that has a way into it: p is the cost up to w, e the cost of that way
  record Over (u w : ℕ) : Type 0 where
    ms : List ℕ
    p : A.Value
    e : A.Value
    run : Runs A card u ms w p
    out : tree w ≡ false
    way : Way w e

  -- A run from u to t that costs x crosses into the tree first from u itself or from a later w. It does not undercut what its own
  -- beginning costs with the way from there.
  abbrev Crossing : ℕ → A.Value → Type 0
  Crossing u x = ((e : A.Value) × Way u e × (A.Under x e → ⊥)) ⊎ ((w : ℕ) × (o : Over u w) × (A.Under x (A.join o.p o.e) → ⊥))

  crossing_more : (u m : ℕ) (a b x : A.Value) → card u m ≡ Some a → x ≡ A.join a b → tree m ≡ false → Crossing m b → Crossing u x
  crossing_more u m a b x k j f (inl (e, way, h)) =
      inr (m, record { ms = []; p = a; e = e; run = k; out = f; way = way }, rw j (keeps_behind L e b a h))
  crossing_more u m a b x k j f (inr (w, o, h)) =
      inr (
        w,
        record { ms = m ∷ o.ms; p = A.join a o.p; e = o.e; run = (a, o.p, k, o.run, refl); out = o.out; way = o.way },
        rw (j, L.assoc a o.p o.e) (keeps_behind L (A.join o.p o.e) b a h),
      )

  crossing : (u : ℕ) (ms : List ℕ) (x : A.Value) → Runs A card u ms t x → Crossing u x
  crossing u [] x r = inl (x, (t, x, A.unit, has_t, r, at_t, sym (join_unit L card x)), not_self x)
  crossing u (m ∷ ms) x (a, b, k, r, j) = split (crossing m ms b r) (cases_Bool (tree m))
    where
      split : Crossing m b → (tree m ≡ true) ⊎ (tree m ≡ false) → Crossing u x
      split later (inl i) = let (z, s, h) = onward m ms b r in inl (A.join a z, (m, a, z, i, k, s, refl), rw j (keeps_behind L z b a h))
      split later (inr f) = crossing_more u m a b x k j f later

  -- outside the tree no card is tight, so the least cost undercuts every way
  least_under_way : (u : ℕ) (x : A.Value) → tree u ≡ false → d u ≡ Some x → (e : A.Value) → Way u e → A.Under x e
  least_under_way u x f s e way = go (L.one_of x e)
    where
      go : A.Under x e ⊎ ((x ≡ e) ⊎ A.Under e x) → A.Under x e
      go (inl h) = h
      go (inr (inl q)) = absurd (both_ways (tree u) f (closed u way.0 way.3 (way.1, way.2, way.4, way.5, s ∙ ap Some (q ∙ way.6))))
      go (inr (inr h)) = let r = way_runs u e way in absurd ((rw s at (least u)).1 e (runs_cost L card u r.0 t e r.1) h)

  -- u goes on to w, and by the way of w undercuts every way of its own
  abbrev Beats : ℕ → ℕ → Type 0
  Beats u w = (o : Over u w) × ((e : A.Value) → Way u e → A.Under (A.join o.p o.e) e)

  -- the least run from u crosses into the tree later than at u
  beats : (u : ℕ) (ms : List ℕ) (b : A.Value) → tree u ≡ false → Runs A card u ms t b → (w : ℕ) × Beats u w
  beats u ms b f r = from (onward u ms b r)
    where
      by : (x : A.Value) → d u ≡ Some x → Crossing u x → (w : ℕ) × Beats u w
      by x s (inl (e, way, h)) = absurd (h (least_under_way u x f s e way))
      by x s (inr (w, o, h)) = (w, (o, λ e way. under_from L (A.join o.p o.e) x e h (least_under_way u x f s e way)))

      from : Onward u b → (w : ℕ) × Beats u w
      from (x, s, h) = let q = cost_runs L card u t x (outside u f) (rw s at (least u)).0 in by x s (crossing u q.0 x q.1)

  beats_trans : (u v w : ℕ) → Beats u v → Beats v w → Beats u w
  beats_trans u v w (o, h) (q, k) = (
    record {
      ms = o.ms ++ v ∷ q.ms;
      p = A.join o.p q.p;
      e = q.e;
      run = runs_join L card u o.ms v q.ms w o.p q.p o.run q.run;
      out = q.out;
      way = q.way;
    },
    λ e way. rw (L.assoc o.p q.p q.e) (under_from L _ (A.join o.p o.e) e
        (keeps_behind L (A.join q.p q.e) o.e o.p (L.not_both _ _ (k o.e o.way))) (h e way)),
  )

  beats_other : (u : ℕ) → Beats u u → ⊥
  beats_other u (o, h) = L.keeps A.unit o.p o.e (no_gain u o.ms o.p o.run) (rw (L.neutral o.e) (h o.e o.way))

  reaches : (v : ℕ) (x : A.Value) → WalkCosts A card v t x → tree v ≡ true
  reaches v x k = split (cases_Bool (tree v))
    where
      on : (u w : ℕ) → Beats u w → (x : ℕ) × Beats w x
      on u w (o, h) = let r = way_runs w o.e o.way in beats w r.0 o.e o.out r.1

      split : (tree v ≡ true) ⊎ (tree v ≡ false) → tree v ≡ true
      split (inl i) = i
      split (inr f) =
          let r = cost_runs L card v t x (outside v f) k in
          let (w, b) = beats v r.0 x f r.1 in
          absurd (no_climb n Beats (λ u w b. (sound.inside w b.0.way.0 _ b.0.way.4).0) beats_trans beats_other on v w b)

pub tree_reaches : {A : Algebra} (L : Lawful A) → TreeReaches A
tree_reaches L = reaches L
