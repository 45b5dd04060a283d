-- Walks over cards: what a walk, its cost, a chain, a loop and a least cost are.
-- Formats are numbers. `card a b` is the cost of the card that leads from a to b, if one stands.
use Rattle.std.specs.Prelude.{◌≡◌, ℕ, ◌<◌, true, List, [], ◌∷◌, ◌++◌, is_some, Some, None, Option, ◌≢◌}
use Rattle.std.specs.Option.{unwrap_or}
use Rattle.costs.specs.Algebra.{Algebra}

-- the formats from s through the inner formats ms to t
abbrev pub path : ℕ → List ℕ → ℕ → List ℕ
path s ms t = s ∷ (ms ++ t ∷ [])

-- the list begins with s and ends with t
abbrev pub FromTo : ℕ → ℕ → List ℕ → Type 0
FromTo s t fs = ((rest : List ℕ) × (fs ≡ s ∷ rest)) × ((front : List ℕ) × (fs ≡ front ++ t ∷ []))

-- every format of the list is below h
abbrev pub Below : ℕ → List ℕ → Type 0
Below h [] = Unit {0}
Below h (f ∷ fs) = (f < h) × Below h fs

-- f is not in the list
abbrev pub Absent : ℕ → List ℕ → Type 0
Absent f [] = Unit {0}
Absent f (g ∷ fs) = (f ≢ g) × Absent f fs

-- no format comes twice
abbrev pub Distinct : List ℕ → Type 0
Distinct [] = Unit {0}
Distinct (f ∷ fs) = Absent f fs × Distinct fs

-- o is the least cost with the property P: none where no cost has it, else one that has it and that no cost with it undercuts
abbrev pub LeastOf : (A : Algebra) → (A.Value → Type 0) → Option A.Value → Type 0
LeastOf A P None = (x : A.Value) → P x → ⊥
LeastOf A P (Some x) = P x × ((y : A.Value) → P y → A.Under y x → ⊥)

module _ (A : Algebra) (card : ℕ → ℕ → Option A.Value) where
  -- a walk: one format or more, and a card for each neighbouring pair
  abbrev pub Walk : List ℕ → Type 0
  Walk [] = ⊥
  Walk (a ∷ []) = Unit {0}
  Walk (a ∷ b ∷ fs) = (is_some (card a b) ≡ true) × Walk (b ∷ fs)

  -- the cost of a walk: the combination of its cards' costs, the unit where it has none
  abbrev pub cost : List ℕ → A.Value
  cost [] = A.unit
  cost (a ∷ []) = A.unit
  cost (a ∷ b ∷ fs) = A.join (unwrap_or (card a b) A.unit) (cost (b ∷ fs))

  -- a chain: a walk that passes no format twice
  abbrev pub Chain : List ℕ → Type 0
  Chain fs = Walk fs × Distinct fs

  -- a loop at h through ms: a closed walk that repeats only its first format, as its last
  abbrev pub Loop : ℕ → List ℕ → Type 0
  Loop h ms = Walk (path h ms h) × Distinct (h ∷ ms)

  -- some walk from s to t costs x
  abbrev pub WalkCosts : ℕ → ℕ → A.Value → Type 0
  WalkCosts s t x = (fs : List ℕ) × FromTo s t fs × Walk fs × (cost fs ≡ x)

  -- some walk of two formats or more from s to t, whose inner formats are below h, costs x
  abbrev pub LowWalkCosts : ℕ → ℕ → ℕ → A.Value → Type 0
  LowWalkCosts h s t x = (ms : List ℕ) × Below h ms × Walk (path s ms t) × (cost (path s ms t) ≡ x)

  -- o is the least cost over walks from s to t
  abbrev pub Least : ℕ → ℕ → Option A.Value → Type 0
  Least s t o = LeastOf A (WalkCosts s t) o

  -- o is the least cost over walks of two formats or more from s to t, whose inner formats are below h
  abbrev pub LowLeast : ℕ → ℕ → ℕ → Option A.Value → Type 0
  LowLeast h s t o = LeastOf A (LowWalkCosts h s t) o

  -- some closed walk, of a card or more, undercuts the unit
  abbrev pub Gains : Type 0
  Gains = (h : ℕ) × (ms : List ℕ) × Walk (path h ms h) × A.Under (cost (path h ms h)) A.unit

  -- some closed walk at h whose inner formats are below h undercuts the unit
  abbrev pub GainsAt : ℕ → Type 0
  GainsAt h = (ms : List ℕ) × Below h ms × Walk (path h ms h) × A.Under (cost (path h ms h)) A.unit

  -- the card from v to w is tight: with the least cost d from there on, it gives just the least cost from v on
  abbrev pub Tight : (ℕ → Option A.Value) → ℕ → ℕ → Type 0
  Tight d v w = (c : A.Value) × (x : A.Value) × (card v w ≡ Some c) × (d w ≡ Some x) × (d v ≡ Some (A.join c x))
