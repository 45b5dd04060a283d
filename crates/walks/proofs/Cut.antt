-- Walks are cut at repeated formats to chains that cost no more, where no closed walk gains.
-- A chain has few cards, so a least cost lies within few cards.
use Rattle.std.proofs.Common.{◌≡◌, ℕ, zero, suc, ◌-◌, ◌<◌, ◌≤◌, max, ◌⊎◌, List, [], ◌∷◌, ◌++◌, length, Some, Option, sym, refl, ap, ◌∙◌, subst, subst₂, inl, inr, arith, length-append}
use Rattle.std.proofs.lemmas.Bool.{cases_order, cases_eq}
use Rattle.costs.specs.Algebra.{Algebra, Lawful, reach}
use Rattle.walks.specs.Walk.{path, FromTo, Below, Absent, Distinct, cost, Chain, WalkCosts, Least, LowLeast, Gains, GainsAt}
use Rattle.walks.specs.Theorems.{Sound, CutToChain, LeastIsNear, UnitIsLeast}
use Rattle.walks.proofs.Runs.{Runs, of_runs, one_from, path_from, one_or_path, runs_cost, cost_runs, runs_split}
use Rattle.walks.proofs.Least.{AtMost, at_most_self, at_most_trans, at_most_both, at_most_front, drop_front, drop_back, least_unique}
use Rattle.walks.proofs.Fold.{Low, below_mono, below_join, to_low, of_low}
use Rattle.walks.proofs.Loops.{runs_inside, no_low_loop}

-- m is absent from the list, or the list is split by it
find : (m : ℕ) (ks : List ℕ) → Absent m ks ⊎ ((is : List ℕ) × (js : List ℕ) × (ks ≡ is ++ m ∷ js))
find m [] = inl tt
find m (k ∷ ks) = go (cases_eq m k) (find m ks)
  where
    go : (m ≡ k) ⊎ (m ≡ k → ⊥) → Absent m ks ⊎ ((is : List ℕ) × (js : List ℕ) × (ks ≡ is ++ m ∷ js)) → Absent m (k ∷ ks) ⊎ ((is : List ℕ) × (js : List ℕ) × (k ∷ ks ≡ is ++ m ∷ js))
    go (inl e) f = inr ([], ks, ap (λ n. n ∷ ks) (sym e))
    go (inr d) (inl a) = inl (d, a)
    go (inr d) (inr (is, js, e)) = inr (k ∷ is, js, ap (λ l. k ∷ l) e)

-- the parts of a list that is below h, or lacks f, or has no format twice
below_parts : (h : ℕ) (is js : List ℕ) → Below h (is ++ js) → Below h is × Below h js
below_parts h [] js b = (tt, b)
below_parts h (i ∷ is) js b = let p = below_parts h is js b.1 in ((b.0, p.0), p.1)

pub absent_parts : (f : ℕ) (is js : List ℕ) → Absent f (is ++ js) → Absent f is × Absent f js
absent_parts f [] js a = (tt, a)
absent_parts f (i ∷ is) js a = let p = absent_parts f is js a.1 in ((a.0, p.0), p.1)

pub distinct_front : (is : List ℕ) (m : ℕ) (js : List ℕ) → Distinct (is ++ m ∷ js) → Distinct is × Absent m is
distinct_front [] m js d = (tt, tt)
distinct_front (i ∷ is) m js d =
    let p = distinct_front is m js d.1 in
    let a = absent_parts i is (m ∷ js) d.0 in
    ((a.0, p.0), ((λ e. a.1.0 (sym e)), p.1))

distinct_back : (is : List ℕ) (m : ℕ) (js : List ℕ) → Distinct (is ++ m ∷ js) → Absent m js × Distinct js
distinct_back [] m js d = d
distinct_back (i ∷ is) m js d = distinct_back is m js d.1

-- one format more at the end
absent_end : (f : ℕ) (ks : List ℕ) (t : ℕ) → Absent f ks → (f ≡ t → ⊥) → Absent f (ks ++ t ∷ [])
absent_end f [] t a d = (d, tt)
absent_end f (k ∷ ks) t a d = (a.0, absent_end f ks t a.1 d)

pub distinct_end : (ks : List ℕ) (t : ℕ) → Distinct ks → Absent t ks → Distinct (ks ++ t ∷ [])
distinct_end [] t d a = (tt, tt)
distinct_end (k ∷ ks) t d a = (absent_end k ks t d.0 (λ e. a.0 (sym e)), distinct_end ks t d.1 a.1)

bound : (ms : List ℕ) → (h : ℕ) × Below h ms
bound [] = (0, tt)
bound (m ∷ ms) = let b = bound ms in (max (suc m) b.0, (omega arith, below_mono b.0 (max (suc m) b.0) ms (omega arith) b.1))

pub below_absent : (h : ℕ) (ks : List ℕ) → Below (suc h) ks → Absent h ks → Below h ks
below_absent h [] b a = tt
below_absent h (k ∷ ks) b a = (omega (arith, a.0, b.0), below_absent h ks b.1 a.1)

-- the list without its highest format
abbrev Dropped : ℕ → List ℕ → Type 0
Dropped h ks = (js : List ℕ) × Below h js × Distinct js × (length ks ≤ suc (length js)) × ((f : ℕ) → Absent f ks → Absent f js)

drop_top : (h : ℕ) (ks : List ℕ) → Below (suc h) ks → Distinct ks → Dropped h ks
drop_top h [] b d = ([], tt, tt, omega arith, λ f a. tt)
drop_top h (k ∷ ks) b d = go (cases_order k h) (drop_top h ks b.1 d.1)
  where
    go : (k ≡ h) ⊎ ((k < h) ⊎ (h < k)) → Dropped h ks → Dropped h (k ∷ ks)
    go (inl e) p = (ks, below_absent h ks b.1 (subst (λ n. Absent n ks) e d.0), d.1, omega arith, λ f a. a.1)
    go (inr (inl l)) (js, c, i, n, keep) = (k ∷ js, (l, c), (keep k d.0, i), omega arith, λ f a. (a.0, keep f a.1))
    go (inr (inr l)) p = absurd (omega (arith, b.0))

-- at most h formats below h are distinct
pub distinct_few : (h : ℕ) (ks : List ℕ) → Below h ks → Distinct ks → length ks ≤ h
distinct_few zero [] b d = omega arith
distinct_few zero (k ∷ ks) b d = absurd (omega (arith, b.0))
distinct_few (suc h) ks b d = let p = drop_top h ks b d in omega (arith, distinct_few h p.0 p.1 p.2, p.3)

module _ {A : Algebra} (L : Lawful A) (card : ℕ → ℕ → Option A.Value) where
  -- a walk from s to t with distinct inner formats below h that costs at most x
  abbrev pub Cut : ℕ → ℕ → ℕ → A.Value → Type 0
  Cut h s t x = (ks : List ℕ) × (y : A.Value) × Below h ks × Distinct ks × Runs A card s ks t y × AtMost A y x

  cut_runs : (h : ℕ) → ((j : ℕ) → j < h → (x : A.Value) → Low A card h j j x → AtMost A A.unit x) → (s : ℕ) (ms : List ℕ) (t : ℕ) (x : A.Value) → Below h ms → Runs A card s ms t x → Cut h s t x
  cut_runs h calm s [] t x b r = ([], x, tt, tt, r, at_most_self L x)
  cut_runs h calm s (m ∷ ms) t x b r = go (cut_runs h calm m ms t r.1 b.1 r.3)
    where
      at : (c : Cut h m t r.1) → Absent m c.0 ⊎ ((is : List ℕ) × (js : List ℕ) × (c.0 ≡ is ++ m ∷ js)) → Cut h s t x
      at (ks, z, l, d, q, u) (inl a) = (m ∷ ks, A.join r.0 z, (b.0, l), (a, d), (r.0, z, r.2, q, refl), at_most_front L r.0 z r.1 x u r.4)
      at (ks, z, l, d, q, u) (inr (is, js, g)) =
          let p = below_parts h is (m ∷ js) (subst (Below h) g l) in
          let v = runs_split L card m is m js t z (subst (λ l. Runs A card m l t z) g q) in (
            m ∷ js,
            A.join r.0 v.1,
            (b.0, p.1.1),
            distinct_back is m js (subst Distinct g d),
            (r.0, v.1, r.2, v.3, refl),
            at_most_front L r.0 v.1 r.1 x (drop_front L v.0 v.1 z r.1 (calm m b.0 v.0 (is, p.0, v.2)) v.4 u) r.4,
          )

      go : Cut h m t r.1 → Cut h s t x
      go c = at c (find m c.0)

  -- where the looks below h find nothing, a walk with inner formats below h can be cut
  pub cut_low : (h : ℕ) → ((k : ℕ) → k < h → GainsAt A card k → ⊥) → (s t : ℕ) (x : A.Value) → Low A card h s t x → Cut h s t x
  cut_low h calm s t x w = cut_runs h (no_low_loop L card h calm) s w.0 t x w.1 w.2

  -- the same at the ends: what lies before the last visit of s, and after the first visit of t, is closed
  module _ (calm : Gains A card → ⊥) where
    closed_calm : (h : ℕ) (ms : List ℕ) (x : A.Value) → Runs A card h ms h x → AtMost A A.unit x
    closed_calm h ms x r u = let w = of_runs L card h ms h x r in calm (h, ms, w.0, subst (λ y. A.Under y A.unit) (sym w.1) u)

    off_start : (s : ℕ) (ks : List ℕ) (t : ℕ) (y : A.Value) → Distinct ks → Runs A card s ks t y → Absent s ks ⊎ ((is : List ℕ) × (js : List ℕ) × (ks ≡ is ++ s ∷ js)) →
        (js : List ℕ) × (z : A.Value) × Absent s js × Distinct js × Runs A card s js t z × AtMost A z y
    off_start s ks t y d r (inl a) = (ks, y, a, d, r, at_most_self L y)
    off_start s ks t y d r (inr (is, js, g)) =
        let p = distinct_back is s js (subst Distinct g d) in
        let v = runs_split L card s is s js t y (subst (λ l. Runs A card s l t y) g r) in
        (js, v.1, p.0, p.1, v.3, drop_front L v.0 v.1 y y (closed_calm s is v.0 v.2) v.4 (at_most_self L y))

    off_end : (s : ℕ) (ks : List ℕ) (t : ℕ) (y : A.Value) → Absent s ks → Distinct ks → Runs A card s ks t y → Absent t ks ⊎ ((is : List ℕ) × (js : List ℕ) × (ks ≡ is ++ t ∷ js)) →
        (js : List ℕ) × (z : A.Value) × Absent s js × Absent t js × Distinct js × Runs A card s js t z × AtMost A z y
    off_end s ks t y a d r (inl b) = (ks, y, a, b, d, r, at_most_self L y)
    off_end s ks t y a d r (inr (is, js, g)) =
        let p = distinct_front is t js (subst Distinct g d) in
        let v = runs_split L card s is t js t y (subst (λ l. Runs A card s l t y) g r) in
        (is, v.0, (absent_parts s is (t ∷ js) (subst (Absent s) g a)).0, p.1, p.0, v.2, drop_back L v.0 v.1 y y (closed_calm t js v.1 v.3) v.4 (at_most_self L y))

    pub chain_of : (s : ℕ) (ms : List ℕ) (t : ℕ) (x : A.Value) → (s ≡ t → ⊥) → Runs A card s ms t x → (ks : List ℕ) × (z : A.Value) × Distinct (path s ks t) × Runs A card s ks t z × AtMost A z x
    chain_of s ms t x n r =
        let h = bound ms in
        let c = cut_runs h.0 (λ j l y w. closed_calm j w.0 y w.2) s ms t x h.1 r in
        let p = off_start s c.0 t c.1 c.3 c.4 (find s c.0) in
        let q = off_end s p.0 t p.1 p.2 p.3 p.4 (find t p.0) in
        (q.0, q.1, (absent_end s q.0 t q.2 n, distinct_end q.0 t q.4 q.3), q.5, at_most_trans L q.1 p.1 x q.6 (at_most_trans L p.1 c.1 x p.5 c.5))

  -- a walk lies within as many cards as it has
  runs_within : (n : ℕ) → Sound A n card → (s : ℕ) (ks : List ℕ) (t : ℕ) (x : A.Value) → suc (length ks) ≤ reach → Runs A card s ks t x → A.Within (suc (length ks)) x
  runs_within n sound s [] t x l r = L.admitted_within x (sound.admitted s t x r)
  runs_within n sound s (k ∷ ks) t x l r =
      subst₂ (λ m y. A.Within m y) (omega arith) (sym r.4)
      (L.within_join 1 (suc (length ks)) r.0 r.1 (omega arith) (L.admitted_within r.0 (sound.admitted s k r.0 r.2)) (runs_within n sound k ks t r.1 (omega arith) r.3))

  -- A least cost over low walks is that of a walk of distinct low inner formats, of which there are at most h.
  pub low_near : (n : ℕ) → Sound A n card → (h : ℕ) → h ≤ n → ((k : ℕ) → k < h → GainsAt A card k → ⊥) → (s t : ℕ) (x : A.Value) → LowLeast A card h s t (Some x) → A.Within (suc h) x
  low_near n sound h l calm s t x least =
      let c = cut_low h calm s t x (to_low L card h s t x least.0) in
      let e = at_most_both L c.1 x c.5 (least.1 c.1 (of_low L card h s t c.1 (c.0, c.2, c.4))) in
      let few = distinct_few h c.0 c.2 c.3 in
      let small = sound.small in
      subst (λ y. A.Within (suc h) y) e (L.within_more (suc (length c.0)) (suc h) c.1 (omega arith) (omega arith) (runs_within n sound s c.0 t c.1 (omega arith) c.4))

-- from a format to itself: the format alone costs the unit, which no closed walk undercuts
pub unit_is_least : {A : Algebra} → Lawful A → UnitIsLeast A
unit_is_least {A} L card calm s = ((s ∷ [], one_from s, tt, refl), none_under)
  where
    none_under : (y : A.Value) → WalkCosts A card s s y → AtMost A A.unit y
    none_under y (fs, ends, w, e) u = go (one_or_path s s fs ends)
      where
        go : ((s ≡ s) × (fs ≡ s ∷ [])) ⊎ ((ms : List ℕ) × (fs ≡ path s ms s)) → ⊥
        go (inl one) = L.not_equal y A.unit u (sym e ∙ ap (cost A card) one.1)
        go (inr (ms, is)) = calm (s, ms, rw is at w, subst (λ x. A.Under x A.unit) (sym e ∙ ap (cost A card) is) u)

pub cut_to_chain : {A : Algebra} → Lawful A → CutToChain A
cut_to_chain {A} L card calm s t fs ends w = go (cases_eq s t)
  where
    go : (s ≡ t) ⊎ (s ≡ t → ⊥) → (ks : List ℕ) × FromTo s t ks × Chain A card ks × AtMost A (cost A card ks) (cost A card fs)
    go (inl e) = (
      s ∷ [],
      subst (λ v. FromTo s v (s ∷ [])) e (one_from s),
      (tt, (tt, tt)),
      (unit_is_least L card calm s).1 (cost A card fs) (fs, subst (λ v. FromTo s v fs) (sym e) ends, w, refl),
    )
    go (inr ne) =
        let (ms, r) = cost_runs L card s t (cost A card fs) ne (fs, ends, w, refl) in
        let c = chain_of L card calm s ms t (cost A card fs) ne r in
        let q = of_runs L card s c.0 t c.1 c.3 in
        (path s c.0 t, path_from s c.0 t, (q.0, c.2), subst (λ y. AtMost A y (cost A card fs)) (sym q.1) c.4)

pub least_is_near : {A : Algebra} → Lawful A → LeastIsNear A
least_is_near {A} L n card sound calm s t x least = go (cases_eq s t)
  where
    go : (s ≡ t) ⊎ (s ≡ t → ⊥) → A.Within (n - 1) x
    go (inl e) =
        let small = sound.small in
        let same = least_unique L (WalkCosts A card s s) (Some A.unit) (Some x) (unit_is_least L card calm s) (subst (λ v. Least A card s v (Some x)) (sym e) least) in
        let is : A.unit ≡ x = cc in
        subst (A.Within (n - 1)) is (L.within_more 0 (n - 1) A.unit (omega arith) (omega arith) L.unit_within)
    go (inr ne) =
        let r = cost_runs L card s t x ne least.0 in
        let c = chain_of L card calm s r.0 t x ne r.1 in
        let e = at_most_both L c.1 x c.4 (least.1 c.1 (runs_cost L card s c.0 t c.1 c.3)) in
        let i = runs_inside L card n sound s c.0 t c.1 c.3 in
        let few = distinct_few n (path s c.0 t) (i.0, below_join n c.0 (t ∷ []) i.1 (i.2, tt)) c.2 in
        let size = length-append c.0 (t ∷ []) in
        let small = sound.small in
        subst (λ y. A.Within (n - 1) y) e (L.within_more (suc (length c.0)) (n - 1) c.1 (omega arith) (omega arith) (runs_within L card n sound s c.0 t c.1 (omega arith) c.3))
