-- What holds of walks over any cards, for every cost kind. A function of the crate has each as its contract.
use Rattle.std.specs.Prelude.{◌≡◌, ℕ, suc, ◌+◌, ◌-◌, ◌*◌, ◌<◌, ◌≤◌, Bool, true, ◌⊎◌, List, Some, Option, ◌≢◌}
use Rattle.costs.specs.Algebra.{Algebra, reach}
use Rattle.walks.specs.Walk.{FromTo, LeastOf, Walk, cost, Chain, WalkCosts, Least, LowLeast, Gains, GainsAt, Tight}

-- cards between different formats below n, each of an admitted cost
pub record Sound (A : Algebra) (n : ℕ) (card : ℕ → ℕ → Option A.Value) : Type 0 where
  pub small : 2 * (n + 1) ≤ reach
  pub inside : (a b : ℕ) (x : A.Value) → card a b ≡ Some x → (a < n) × (b < n) × (a ≢ b)
  pub admitted : (a b : ℕ) (x : A.Value) → card a b ≡ Some x → A.admits x ≡ true

-- x is the combination of the two costs, where both are there
abbrev pub Joined : (A : Algebra) → Option A.Value → Option A.Value → A.Value → Type 0
Joined A p q x = (a : A.Value) × (b : A.Value) × (p ≡ Some a) × (q ≡ Some b) × (x ≡ A.join a b)

-- x is o, or the combination of p and q
abbrev pub Either : (A : Algebra) → Option A.Value → Option A.Value → Option A.Value → A.Value → Type 0
Either A o p q x = (o ≡ Some x) ⊎ Joined A p q x

module _ (A : Algebra) where
  -- The fold step: where no closed walk at h through lower formats undercuts the unit, the least cost through formats up
  -- to h is the better of the least through lower ones and the way by h.
  abbrev pub FoldStep : Type 0
  FoldStep = (card : ℕ → ℕ → Option A.Value) (h s t : ℕ) (o p q r : Option A.Value) → (GainsAt A card h → ⊥) →
      LowLeast A card h s t o → LowLeast A card h s h p → LowLeast A card h h t q → LeastOf A (Either A o p q) r → LowLeast A card (suc h) s t r

  -- a look at h finds the lower format k: the least ways from h to k and back undercut the unit together
  abbrev pub LookHits : (ℕ → ℕ → Option A.Value) → ℕ → ℕ → Type 0
  LookHits card h k = (a : A.Value) × (b : A.Value) × LowLeast A card k h k (Some a) × LowLeast A card k k h (Some b) × A.Under (A.join a b) A.unit

  -- A look at h finds a closed walk through lower formats exactly where there is one, if no lower look found any.
  abbrev pub LookFinds : Type 0
  LookFinds = (n : ℕ) (card : ℕ → ℕ → Option A.Value) → Sound A n card → (h : ℕ) → ((k : ℕ) → k < h → GainsAt A card k → ⊥) →
      ((k : ℕ) → k < h → (o : Option A.Value) × LowLeast A card k h k o) → ((k : ℕ) → k < h → (o : Option A.Value) × LowLeast A card k k h o) →
      (((k : ℕ) × (k < h) × LookHits card h k) → GainsAt A card h) × (((k : ℕ) → k < h → LookHits card h k → ⊥) → GainsAt A card h → ⊥)

  -- No closed walk escapes the looks: one that undercuts the unit, wherever it lies, gives one at its highest format.
  abbrev pub NoHiddenLoop : Type 0
  NoHiddenLoop = (n : ℕ) (card : ℕ → ℕ → Option A.Value) → Sound A n card → ((h : ℕ) → h < n → GainsAt A card h → ⊥) → Gains A card → ⊥

  -- Where no closed walk undercuts the unit, each walk can be cut to a chain that it does not undercut.
  abbrev pub CutToChain : Type 0
  CutToChain = (card : ℕ → ℕ → Option A.Value) → (Gains A card → ⊥) → (s t : ℕ) (fs : List ℕ) → FromTo s t fs → Walk A card fs →
      (ks : List ℕ) × FromTo s t ks × Chain A card ks × (A.Under (cost A card fs) (cost A card ks) → ⊥)

  -- Where no closed walk undercuts the unit, the unit is the least cost from a format to itself.
  abbrev pub UnitIsLeast : Type 0
  UnitIsLeast = (card : ℕ → ℕ → Option A.Value) → (Gains A card → ⊥) → (s : ℕ) → Least A card s s (Some A.unit)

  -- Where no closed walk undercuts the unit, a least cost lies within one card less than there are formats.
  abbrev pub LeastIsNear : Type 0
  LeastIsNear = (n : ℕ) (card : ℕ → ℕ → Option A.Value) → Sound A n card → (Gains A card → ⊥) → (s t : ℕ) (x : A.Value) →
      Least A card s t (Some x) → A.Within (n - 1) x

  -- The tree of tight cards: a set of formats that has t, and each format with a tight card into the set, has every format
  -- from which a walk leads to t.
  abbrev pub TreeReaches : Type 0
  TreeReaches = (n : ℕ) (card : ℕ → ℕ → Option A.Value) → Sound A n card → (Gains A card → ⊥) → (t : ℕ) (d : ℕ → Option A.Value) →
      ((v : ℕ) → Least A card v t (d v)) → (tree : ℕ → Bool) → tree t ≡ true →
      ((v w : ℕ) → tree w ≡ true → Tight A card d v w → tree v ≡ true) → (v : ℕ) (x : A.Value) → WalkCosts A card v t x → tree v ≡ true
