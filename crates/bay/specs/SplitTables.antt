-- What a fork finds in its table, and what it writes: the totals at the formats, the best of them, and its rows.
use Rattle.std.specs.Prelude.{◌≡◌, ℕ, ◌*◌, ◌<◌, ◌⊎◌, List, length, Some, None, Option, slice_index_or}
use Rattle.costs.specs.declared.Cost.{Ghosts as Kind}
use Rattle.costs.specs.Algebra.{Algebra}
use Rattle.bay.specs.Buffers.{Beyond}
use Rattle.bay.specs.Plain.{from_to}
use Rattle.bay.specs.Routes.{HasLeastChain}
use Rattle.bay.specs.Sheet.{put_row, row_at, row_bytes}
use Rattle.bay.specs.Splits.{HasCheapestSplit, NoWalk, SplitCosts, split_rows}
use Rattle.bay.specs.declared.splits.Branches.{Branches}
use Rattle.bay.specs.declared.splits.Split.{Split}

-- the input and both outputs are formats of n
abbrev pub Asked : Branches → ℕ → Type 0
Asked b n = (b.input < n) × (b.first < n) × (b.second < n)

module _ (A : Algebra) (card : ℕ → ℕ → Option A.Value) where
  -- three walks for the branches, which part at m, cost x together
  abbrev pub TotalsAt : Branches → ℕ → A.Value → Type 0
  TotalsAt b = SplitCosts A card b.input b.first b.second

  -- no three walks do: there is none to m, or none from there to some output
  abbrev pub NoTotalAt : Branches → ℕ → Type 0
  NoTotalAt b m = NoWalk A card b.input m ⊎ (NoWalk A card m b.first ⊎ NoWalk A card m b.second)

  -- row k has a chain of least cost from s to t, and the rest of the sheet is as it was
  pub record ChainPut (s t k : ℕ) (before after : List ℕ) : Type 0 where
    pub row : List ℕ
    pub paid : A.Value
    pub chain : HasLeastChain A card (from_to s t) row paid
    pub long : length row ≡ row_bytes
    pub put : after ≡ put_row before k row

module _ {C : Type 0} (K : Kind C) where
  -- of a split that is held and a total at another format, the total where it undercuts
  abbrev pub Better : Option (Split C) → ℕ → Option C → Option (Split C) → Type 0
  Better held at None best = best ≡ held
  Better None at (Some x) best = best ≡ Some (record { at = at; total = x })
  Better (Some s) at (Some x) best =
      ((best ≡ Some (record { at = at; total = x })) × K.algebra.Under (K.value x) (K.value s.total)) ⊎
      ((best ≡ Some s) × (K.algebra.Under (K.value x) (K.value s.total) → ⊥))

  module _ (card : ℕ → ℕ → Option K.algebra.Value) (b : Branches) where
    -- the lowest of the formats below high with the least total, if there is a total at one of them
    abbrev pub BestBelow : ℕ → Option (Split C) → Type 0
    BestBelow high None = (k : ℕ) → k < high → NoTotalAt K.algebra card b k
    BestBelow high (Some s) =
        (s.at < high) × TotalsAt K.algebra card b s.at (K.value s.total) ×
        ((k : ℕ) (x : K.algebra.Value) → k < high → TotalsAt K.algebra card b k x → K.algebra.Under x (K.value s.total) → ⊥) ×
        ((k : ℕ) (x : K.algebra.Value) → k < s.at → TotalsAt K.algebra card b k x → K.algebra.Under (K.value s.total) x)

    module _ (old_costs new_costs : List C) (old_chains new_chains : List ℕ) where
      -- the cheapest split is written in the first rows and the first entry
      pub record SplitWritten (m : ℕ) : Type 0 where
        pub found : (d : C) → HasCheapestSplit K.algebra card b.input b.first b.second m (row_at new_chains) (K.value (slice_index_or new_costs 0 d))
        pub costs : Beyond 1 old_costs new_costs
        pub chains : Beyond (row_bytes * split_rows) old_chains new_chains

      -- no walk leads from the input to some output, and nothing is written
      pub record NoneWritten : Type 0 where
        pub cut_off : NoWalk K.algebra card b.input b.first ⊎ NoWalk K.algebra card b.input b.second
        pub costs : new_costs ≡ old_costs
        pub chains : new_chains ≡ old_chains
