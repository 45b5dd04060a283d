-- The memory that a route is lent: a working table, a cost sheet and a chain sheet.
use Rattle.std.specs.Prelude.{◌≡◌, ℕ, ◌≤◌, List, ◌++◌, drop, length, slice_index_or}
use Rattle.bay.specs.declared.cells.Cell.{Cell}

-- places from n on are as they were, and so is the length
pub record Beyond {X : Type 0} (n : ℕ) (before after : List X) : Type 0 where
  pub long : length after ≡ length before
  pub same : (k : ℕ) (d : X) → n ≤ k → slice_index_or after k d ≡ slice_index_or before k d

-- a list in the front of a place, and the rest of it as it was
abbrev pub in_front : {X : Type 0} → List X → List X → List X
in_front new old = new ++ drop (length new) old

pub record Buffers (C : Type 0) : Type 0 where
  pub table : List (Cell C)
  pub costs : List C
  pub chains : List ℕ

abbrev pub buffers : {C : Type 0} → List (Cell C) → List C → List ℕ → Buffers C
buffers table costs chains = record { table = table; costs = costs; chains = chains }

-- only so many cells, cost entries and bytes of the chain sheet were written
pub record Wrote {C : Type 0} (cells entries bytes : ℕ) (before after : Buffers C) : Type 0 where
  pub table : Beyond cells before.table after.table
  pub costs : Beyond entries before.costs after.costs
  pub chains : Beyond bytes before.chains after.chains
