-- The costs that the stages of a search go by, level after level: over walks whose inner formats are below some format.
use Rattle.std.specs.Prelude.{◌≡◌, ℕ, suc, ◌+◌, ◌<◌, ◌≤◌, cond, ◌&&◌, ◌⊎◌, Some, None, Option, ◌≢◌, nat_le, nat_lt}
use Rattle.costs.specs.Algebra.{Algebra, reach}
use Rattle.walks.specs.Walk.{GainsAt}
use Rattle.walks.specs.Theorems.{Joined}

-- the cards that lead from a format below `high` to one up to it
abbrev pub upto : {V : Type 0} → ℕ → (ℕ → ℕ → Option V) → ℕ → ℕ → Option V
upto high card s t = cond (nat_lt s high && nat_le t high) (card s t) None

module _ (A : Algebra) where
  -- a cost that is there lies within one card more than there are formats
  abbrev pub Near : ℕ → Option A.Value → Type 0
  Near n o = (x : A.Value) → o ≡ Some x → A.Within (suc n) x

  -- the combination of the two costs, where both are there, is exact: they lie within few enough cards together
  abbrev pub Joinable : Option A.Value → Option A.Value → Type 0
  Joinable p q = (a b : A.Value) → p ≡ Some a → q ≡ Some b → (m : ℕ) × (k : ℕ) × (m + k ≤ reach) × A.Within m a × A.Within k b

  -- both costs are there, and undercut the unit together
  abbrev pub UndercutUnit : Option A.Value → Option A.Value → Type 0
  UndercutUnit p q = (x : A.Value) × Joined A p q x × A.Under x A.unit

  -- x is o, or the combination of the cost to a format j from low to high, which is not the goal, and of the cost on from there
  abbrev pub ByWay : Option A.Value → (ℕ → Option A.Value) → (ℕ → Option A.Value) → ℕ → ℕ → ℕ → A.Value → Type 0
  ByWay o to on goal low high x = (o ≡ Some x) ⊎ ((j : ℕ) × (low ≤ j) × (j < high) × (j ≢ goal) × Joined A (to j) (on j) x)

  -- no closed walk at a format below h, through lower ones, undercuts the unit
  abbrev pub NoLoopBelow : (ℕ → ℕ → Option A.Value) → ℕ → Type 0
  NoLoopBelow card h = (k : ℕ) → k < h → GainsAt A card k → ⊥

  -- h is the lowest format at which a closed walk through lower formats undercuts the unit, or there is none below n
  abbrev pub Looked : (ℕ → ℕ → Option A.Value) → ℕ → Option ℕ → Type 0
  Looked card n (Some h) = (h < n) × GainsAt A card h × NoLoopBelow card h
  Looked card n None = NoLoopBelow card n
