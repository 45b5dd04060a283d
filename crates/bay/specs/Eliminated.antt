-- The stages that bring a table to least costs: what one pass over it does, and what each stage promises.
-- A pass by way of k sets cells (s, t) to the better of their own cost and the combination of those of (s, k) and (k, t).
use Rattle.std.specs.Prelude.{◌≡◌, ℕ, Bool, true, false, Contains, AllPairs, ◌+◌, ◌*◌, ◌<◌, ◌≤◌, min, max, ◌⊎◌, List, length, Some, None, Option, ◌≢◌, slice_index_or}
use Rattle.costs.specs.declared.Cost.{Ghosts as Kind}
use Rattle.costs.specs.Algebra.{Algebra, IsJoin, reach}
use Rattle.registers.specs.Meaning.{most_formats}
use Rattle.walks.specs.Levels.{Near, UndercutUnit, Looked}
use Rattle.walks.specs.Walk.{LeastOf, Least, LowLeast}
use Rattle.walks.specs.Theorems.{Either}
use Rattle.bay.specs.Buffers.{Beyond}
use Rattle.bay.specs.Cells.{Table, Roomy, least_in, Each}
use Rattle.bay.specs.FormatSets.{holds, no_formats}
use Rattle.bay.specs.RowsPassed.{RowsPassed}
use Rattle.bay.specs.declared.elimination.Found.{Found}
use Rattle.bay.specs.declared.elimination.Found.TheVariants.{LoopAt, NoLoop}
use Rattle.bay.specs.declared.elimination.Via.{Via}
use Rattle.bay.specs.declared.sets.FormatSet.{FormatSet}

-- the cells in the rows from r to r' and the columns from c to c'
abbrev pub Block : ℕ → ℕ → ℕ → ℕ → ℕ → ℕ → Type 0
Block r r' c c' s t = (r ≤ s) × (s < r') × (c ≤ t) × (t < c')

-- the cells of one row in the columns of a set
abbrev pub InRow : ℕ → FormatSet → ℕ → ℕ → Type 0
InRow row columns s t = (s ≡ row) × (holds columns t ≡ true)

-- so many numbers from low to high have the property: there is a list of them, each once
abbrev pub Tally : (ℕ → Bool) → ℕ → ℕ → ℕ → Type 0
Tally p low high k =
    (rows : List ℕ) × AllPairs (λ i j. i < j) rows × ((i : ℕ) → Contains rows i → (low ≤ i) × (i < high) × (p i ≡ true)) ×
    ((i : ℕ) → low ≤ i → i < high → p i ≡ true → Contains rows i) × (k ≡ length rows)

-- the set has those formats of the row that stand from low to high
pub record Leads (row : FormatSet) (low high : ℕ) (reached : FormatSet) : Type 0 where
  pub each : (t : ℕ) → holds reached t ≡ true → (low ≤ t) × (t < high) × (holds row t ≡ true)
  pub all : (t : ℕ) → low ≤ t → t < high → holds row t ≡ true → holds reached t ≡ true

-- the marks are those of the set, and the set lies in the span, which is part of a row
pub record Spans (n : ℕ) (via : Via) : Type 0 where
  pub inside : (via.low ≤ via.high) × (via.high ≤ n)
  pub span : (t : ℕ) → holds via.reached t ≡ true → (via.low ≤ t) × (t < via.high)
  pub marks : (t : ℕ) → t < most_formats → slice_index_or via.marks t false ≡ holds via.reached t

-- with a mark, y is the better of what was held and the combination of a and b; without one it stays
pub record Picked (A : Algebra) (mark : Bool) (a b x y : A.Value) : Type 0 where
  pub stays : mark ≡ false → y ≡ x
  pub better : mark ≡ true → (z : A.Value) × IsJoin A a b z × ((A.Under z x × (y ≡ z)) ⊎ ((A.Under z x → ⊥) × (y ≡ x)))

module _ {C : Type 0} (K : Kind C) (n : ℕ) where
  -- a pass over one row can be made: the table has its cells, the row is not the pivot's, and what the pivot is said to lead to has
  -- a cost from it
  pub record RowReady (s : ℕ) (via : Via) (t : Table C) : Type 0 where
    pub roomy : Roomy K n t
    pub inside : (s < n) × (via.at < n) × (s ≢ via.at)
    pub spans : Spans n via
    pub reached : (w : ℕ) → holds via.reached w ≡ true → (w ≢ via.at) × (holds (slice_index_or t.there via.at no_formats) w ≡ true)

  -- the cost from the row's format to the pivot is near, and so are those from the pivot to what it is said to lead to
  abbrev pub NearBy : ℕ → Via → Table C → Type 0
  NearBy s via t = Near K.algebra n (least_in K n t s via.at) × ((w : ℕ) → holds via.reached w ≡ true → Near K.algebra n (least_in K n t via.at w))

  -- the same for the row of a goal and the columns below a format
  abbrev pub NearBack : ℕ → ℕ → Table C → Type 0
  NearBack goal j t = Near K.algebra n (least_in K n t goal j) × ((w : ℕ) → w < j → Near K.algebra n (least_in K n t j w))

  -- a pass by way of k can combine: the table has its cells, and the costs to and from k are near
  pub record PivotReady (k : ℕ) (t : Table C) : Type 0 where
    pub roomy : Roomy K n t
    pub small : 2 * (n + 1) ≤ reach
    pub inside : k < n
    pub near : (s : ℕ) → s < n → (s ≢ k) → Near K.algebra n (least_in K n t s k) × Near K.algebra n (least_in K n t k s)

  -- the cells in Hit had one pass by way of k, all from the costs at entry; the others are as they were
  pub record Improved (k : ℕ) (Hit : ℕ → ℕ → Type 0) (entry exit : Table C) : Type 0 where
    pub hit : (s t : ℕ) → s < n → t < n → Hit s t →
        LeastOf K.algebra (Either K.algebra (least_in K n entry s t) (least_in K n entry s k) (least_in K n entry k t)) (least_in K n exit s t)
    pub missed : (s t : ℕ) → s < n → t < n → (Hit s t → ⊥) → least_in K n exit s t ≡ least_in K n entry s t
    pub beyond : Beyond (n * n) entry.cells exit.cells
    pub there : length exit.there ≡ length entry.there

  -- the costs from h to k and back are there, and undercut the unit together
  abbrev pub Closes : Table C → ℕ → ℕ → Type 0
  Closes t h k = UndercutUnit K.algebra (least_in K n t h k) (least_in K n t k h)

  module _ (card : ℕ → ℕ → Option K.algebra.Value) (t : Table C) where
    -- each cell has its least cost over inner formats below both of its own
    abbrev pub FirstDone : Type 0
    FirstDone = Each K n t (λ s w. LowLeast K.algebra card (min s w) s w)

    -- the same in a table that is turned over: the cell (s, w) has the cost from w to s
    abbrev pub TurnedDone : Type 0
    TurnedDone = Each K n t (λ s w. LowLeast K.algebra card (min s w) w s)

    -- in a table that is turned over, before the second stage comes to format j: the rows of the goals have come so far
    pub record SecondTo (goals : FormatSet) (level : ℕ → ℕ) : Type 0 where
      pub low : Each K n t (λ s w o. ((w < s) ⊎ (holds goals s ≡ false)) → LowLeast K.algebra card (min s w) w s o)
      pub high : Each K n t (λ s w o. holds goals s ≡ true → s < w → LowLeast K.algebra card (min w (max (level s) s)) w s o)

    -- before the third stage for the goal g: each cell (s, w) with w below s, and each of a goal's row, has the least cost from w to s
    -- over inner formats below w, or, where s is below g, over all
    abbrev pub ThirdFrom : FormatSet → ℕ → Type 0
    ThirdFrom goals g = Each K n t (λ s w o. ((w < s) ⊎ (holds goals s ≡ true)) →
        LowLeast K.algebra card w w s o ⊎ ((s < g) × Least K.algebra card w s o))

    -- each format has, in the row of the goal, its least cost to the goal
    abbrev pub ThirdDone : ℕ → Type 0
    ThirdDone goal = (v : ℕ) → v < n → Least K.algebra card v goal (least_in K n t goal v)

    -- the first format at which a closed walk through lower ones undercuts the unit; or there is none, each cell has its cost, and
    -- so many rows had something to pass on
    abbrev pub FirstFound : Found → Type 0
    FirstFound (LoopAt h) = Looked K.algebra card n (Some h)
    FirstFound (NoLoop k) = Looked K.algebra card n None × FirstDone × RowsPassed K.algebra card k
