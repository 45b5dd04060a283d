-- What is found of a register's cards in a table of cells: the costs of the first stage, or a loop that undercuts the unit.
-- `card` is the cost of the card between two formats, by what it means.
use Rattle.std.specs.Prelude.{◌≡◌, ℕ, ◌<◌, true, List, Some, Option}
use Rattle.costs.specs.declared.Cost.{Ghosts as Kind}
use Rattle.costs.specs.Algebra.{Algebra}
use Rattle.walks.specs.Walk.{path, cost, Loop, Gains}
use Rattle.walks.specs.Theorems.{Sound}
use Rattle.bay.specs.Cells.{Table, Roomy, least_in}
use Rattle.walks.specs.Levels.{Looked, UndercutUnit, upto}
use Rattle.bay.specs.Eliminated.{FirstDone, ThirdDone}
use Rattle.bay.specs.RowsPassed.{RowsPassed}
use Rattle.bay.specs.Sheet.{row_of, put_row}
use Rattle.bay.specs.declared.elimination.Found.{Found}
use Rattle.bay.specs.declared.elimination.Found.TheVariants.{LoopAt, NoLoop}

module _ (A : Algebra) where
  -- some loop at h undercuts the unit, and row 0 of the sheet has it
  abbrev pub LoopWritten : (ℕ → ℕ → Option A.Value) → ℕ → List ℕ → List ℕ → Type 0
  LoopWritten card h entry exit =
      (ms : List ℕ) × Loop A card h ms × A.Under (cost A card (path h ms h)) A.unit × (exit ≡ put_row entry 0 (row_of (path h ms h)))

  -- a card may have the cost, if there is one
  abbrev pub Admitted : Option A.Value → Type 0
  Admitted o = (x : A.Value) → o ≡ Some x → A.admits x ≡ true

module _ {C : Type 0} (K : Kind C) where
  module _ (n : ℕ) (card : ℕ → ℕ → Option K.algebra.Value) (t : Table C) where
    -- no closed walk undercuts the unit, and the table has each cell's cost as the first stage leaves it
    pub record Settled : Type 0 where
      pub calm : Gains K.algebra card → ⊥
      pub low : FirstDone K n card t

    -- what the search has found: the lowest format at which a closed walk through lower ones undercuts the unit; or none such, and
    -- so many rows had something to pass on
    abbrev pub Solved : Found → Type 0
    Solved (LoopAt h) = Looked K.algebra card n (Some h)
    Solved (NoLoop k) = Settled × RowsPassed K.algebra card k

  -- the card from h to v and the least cost back, which the row of h has, undercut the unit together
  abbrev pub Turns : ℕ → (ℕ → ℕ → Option K.algebra.Value) → Table C → ℕ → ℕ → Type 0
  Turns n card t h v = UndercutUnit K.algebra (card h v) (least_in K n t h v)

  -- no closed walk over the cards up to h undercuts the unit, and the table has their least costs back to h
  pub record Back (n : ℕ) (card : ℕ → ℕ → Option K.algebra.Value) (t : Table C) (h : ℕ) : Type 0 where
    pub inside : h < n
    pub sound : Sound K.algebra n (upto h card)
    pub calm : Gains K.algebra (upto h card) → ⊥
    pub roomy : Roomy K n t
    pub least : ThirdDone K n (upto h card) t h
