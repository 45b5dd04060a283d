-- Least-cost chains that are read from a table of next formats, and the searches over tight cards that the table is made by.
-- `ticked` says from which formats `next` leads to the goal: they are a tree, with the goal at its root.
use Rattle.std.specs.Prelude.{◌≡◌, ℕ, ◌<◌, ◌≤◌, Bool, true, false, cond, List, [], ◌∷◌, length, Some, None, Option, MatchOption, ◌≢◌, nat_lt, ◌⊎◌, slice_index, slice_index_or}
use Rattle.costs.specs.Algebra.{Algebra}
use Rattle.registers.specs.Meaning.{most_formats}
use Rattle.walks.specs.Walk.{Below, Distinct, Walk, cost, Chain, WalkCosts, Least, Gains, Tight}
use Rattle.walks.specs.Theorems.{Sound}
use Rattle.bay.specs.Sheet.{most_in_row}

-- the formats of the list are those met from v on by `next`, up to t
abbrev pub Follows : List ℕ → ℕ → ℕ → List ℕ → Type 0
Follows next t v [] = ⊥
Follows next t v (f ∷ []) = (f ≡ v) × (v ≡ t)
Follows next t v (f ∷ g ∷ fs) = (f ≡ v) × (v ≢ t) × Follows next t (slice_index next v) (g ∷ fs)

-- `next` leads from `from` to the goal, past at most so many formats
abbrev pub LeadsIn : ℕ → List ℕ → ℕ → ℕ → Type 0
LeadsIn most next goal from = (fs : List ℕ) × Follows next goal from fs × Below most_formats fs × (length fs ≤ most)

-- `next` leads from `from` to the goal, past no more formats than a row has room for
abbrev pub Leads : List ℕ → ℕ → ℕ → Type 0
Leads = LeadsIn most_in_row

-- no format has a tick
abbrev pub Clear : List Bool → Type 0
Clear ticked = (v : ℕ) → slice_index_or ticked v false ≡ false

-- every format of the list has a tick, or a mark
abbrev pub Ticked : List Bool → List ℕ → Type 0
Ticked ticked [] = Unit {0}
Ticked ticked (f ∷ fs) = (slice_index_or ticked f false ≡ true) × Ticked ticked fs

-- `next` leads from v along a chain inside the tree to t, at the least cost
pub record Led (A : Algebra) (card : ℕ → ℕ → Option A.Value) (d : ℕ → Option A.Value) (t : ℕ) (ticked : List Bool) (next : List ℕ) (v : ℕ) : Type 0 where
  pub formats : List ℕ
  pub follows : Follows next t v formats
  pub distinct : Distinct formats
  pub inside : Ticked ticked formats
  pub walks : Walk A card formats
  pub costs : d v ≡ Some (cost A card formats)

-- `next` leads to t from each format in the tree
abbrev pub Grown : (A : Algebra) → (ℕ → ℕ → Option A.Value) → (ℕ → Option A.Value) → ℕ → List Bool → List ℕ → Type 0
Grown A card d t ticked next = (v : ℕ) → slice_index_or ticked v false ≡ true → Led A card d t ticked next v

-- who had a tick still has it
abbrev pub Rises : List Bool → List Bool → Type 0
Rises before after = (v : ℕ) → slice_index_or before v false ≡ true → slice_index_or after v false ≡ true

-- what a search has reached: the formats in their order, the place of the one that each was reached from, and a mark for each
pub record SearchState : Type 0 where
  pub formats : List ℕ
  pub origins : List ℕ
  pub marks : List Bool

-- the formats of the list are those with a mark, each once
pub record Lined (n : ℕ) (marks : List Bool) (formats : List ℕ) : Type 0 where
  pub below : Below n formats
  pub distinct : Distinct formats
  pub inside : Ticked marks formats
  pub all : (v : ℕ) → slice_index_or marks v false ≡ true → (k : ℕ) × (k < length formats) × (slice_index formats k ≡ v)

-- who had a mark still has it, and the list only has more at its end
pub record Wider (before after : List Bool) (formats longer : List ℕ) : Type 0 where
  pub rises : length formats ≤ length longer
  pub marks : Rises before after
  pub front : (k : ℕ) → k < length formats → slice_index longer k ≡ slice_index formats k

-- over the cards of n formats, with d v for the least cost from v to the goal
module _ (A : Algebra) (n : ℕ) (card : ℕ → ℕ → Option A.Value) (d : ℕ → Option A.Value) (goal : ℕ) where
  -- the least cost from v to the goal, which no format from n on has
  abbrev pub to_goal : ℕ → Option A.Value
  to_goal v = cond (nat_lt v n) (d v) None

  -- d is the least cost to the goal, and no closed walk gains
  pub record GoalReady : Type 0 where
    pub sound : Sound A n card
    pub few : n ≤ most_formats
    pub inside : goal < n
    pub calm : Gains A card → ⊥
    pub least : (v : ℕ) → v < n → Least A card v goal (d v)

  -- the card from v to w is tight on the way to the goal
  abbrev pub TightIn : ℕ → ℕ → Type 0
  TightIn v w = Tight A card to_goal v w

  -- each format below k with a tight card from v has a mark
  abbrev pub Scanned : List Bool → ℕ → ℕ → Type 0
  Scanned marks v k = (w : ℕ) → w < k → TightIn v w → slice_index_or marks w false ≡ true

  -- a tight card leads from v to w, which has a tick
  abbrev pub Onward : List Bool → ℕ → ℕ → Type 0
  Onward ticked v w = (w < n) × (slice_index_or ticked w false ≡ true) × TightIn v w

  -- a search among formats without a tick: a tight card leads to each but the first, from an earlier one
  pub record Searched (ticked : List Bool) (r : SearchState) : Type 0 where
    pub lined : Lined n r.marks r.formats
    pub long_marks : length r.marks ≡ most_formats
    pub long_origins : length r.origins ≡ length r.formats
    pub free : (k : ℕ) → k < length r.formats → slice_index_or ticked (slice_index r.formats k) false ≡ false
    pub tight : (k : ℕ) → 0 < k → k < length r.formats →
        (slice_index r.origins k < k) × TightIn (slice_index r.formats (slice_index r.origins k)) (slice_index r.formats k)

  -- each format with a tight card from one that was reached was reached too
  abbrev pub Exhausted : SearchState → Type 0
  Exhausted r = (k : ℕ) → k < length r.formats → Scanned r.marks (slice_index r.formats k) n

  -- `next` leads to the goal from each format with a tick, and the goal has one
  pub record LeadsToGoal (ticked : List Bool) (next : List ℕ) : Type 0 where
    pub grown : Grown A card to_goal goal ticked next
    pub rooted : slice_index_or ticked goal false ≡ true
    pub long_ticked : length ticked ≡ most_formats
    pub long_next : length next ≡ most_formats

  -- v has a tick, or the table has no cost from it to the goal
  abbrev pub Covered : List Bool → ℕ → Type 0
  Covered ticked v = (slice_index_or ticked v false ≡ true) ⊎ ((x : A.Value) → to_goal v ≡ Some x → ⊥)

  -- `next` leads from v to the goal along a chain of the least cost, or no walk leads there
  abbrev pub Traced : List ℕ → ℕ → Type 0
  Traced next v =
      MatchOption (d v) ((x : A.Value) → WalkCosts A card v goal x → ⊥)
      (λ x. (fs : List ℕ) × Chain A card fs × (cost A card fs ≡ x) × Follows next goal v fs)

  -- each format that `next` passes on its way from v to the goal has a tick, where a walk leads there
  abbrev pub TickedFrom : List Bool → List ℕ → ℕ → Type 0
  TickedFrom ticked next v =
      (x : A.Value) → d v ≡ Some x → (fs : List ℕ) → Follows next goal v fs → Ticked ticked fs
