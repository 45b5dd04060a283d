-- A working table of n × n cells, row by row, by what its costs mean; and, beside it, a set for each row: which of its cells have one.
use Rattle.std.specs.Prelude.{◌≡◌, ℕ, ◌+◌, ◌*◌, ◌<◌, ◌≤◌, cond, not, ◌&&◌, List, map, length, None, Some, Option, ◌==◌, ◌≢◌, nat_lt, slice_index_or}
use Rattle.costs.specs.declared.Cost.{Ghosts as Kind}
use Rattle.registers.specs.Meaning.{most_formats}
use Rattle.walks.specs.Theorems.{Sound}
use Rattle.bay.specs.FormatSets.{holds, no_formats}
use Rattle.bay.specs.declared.cells.Cell.{Cell}
use Rattle.bay.specs.declared.sets.FormatSet.{FormatSet}

-- the cells, and the set of each row
pub record Table (C : Type 0) : Type 0 where
  pub cells : List (Cell C)
  pub there : List FormatSet

abbrev pub tabled : {C : Type 0} → List (Cell C) → List FormatSet → Table C
tabled cells there = record { cells = cells; there = there }

module _ {C : Type 0} (K : Kind C) where
  -- what the cost at a place means
  abbrev pub meaning_at : List (Cell C) → ℕ → K.algebra.Value
  meaning_at cells k = slice_index_or (map (λ c. K.value c.cost) cells) k K.algebra.unit

  -- the cells of the row s before the diagonal are swapped with those of the column s, and the others are as they were
  pub record TurnedRow (n s : ℕ) (entry exit : List (Cell C)) : Type 0 where
    pub row : (w : ℕ) → w < s → (meaning_at exit (s * n + w) ≡ meaning_at entry (w * n + s)) × (meaning_at exit (w * n + s) ≡ meaning_at entry (s * n + w))
    pub others : (a b : ℕ) → a < n → b < n → ((a ≡ s) × (b < s) → ⊥) → ((b ≡ s) × (a < s) → ⊥) → meaning_at exit (a * n + b) ≡ meaning_at entry (a * n + b)

  module _ (n : ℕ) (t : Table C) where
    -- the least cost that was found from s to w, where the set of s has w
    abbrev pub least_in : ℕ → ℕ → Option K.algebra.Value
    least_in s w = cond (holds (slice_index_or t.there s no_formats) w) (Some (meaning_at t.cells (s * n + w))) None

    -- its costs between two different formats below n, taken for those of cards
    abbrev pub cards_in : ℕ → ℕ → Option K.algebra.Value
    cards_in s w = cond (nat_lt s n && (nat_lt w n && not (s == w))) (least_in s w) None

    -- there are n × n cells, and a set for each row
    pub record Roomy : Type 0 where
      pub cells : n * n ≤ length t.cells
      pub there : length t.there ≡ most_formats
      pub few : n ≤ most_formats

    -- the table is loaded with the cards of a register
    pub record Laid : Type 0 where
      pub roomy : Roomy
      pub sound : Sound K.algebra n cards_in

    -- for each two different formats below n the cell has the least cost that P asks for
    abbrev pub Each : (ℕ → ℕ → Option K.algebra.Value → Type 0) → Type 0
    Each P = (s w : ℕ) → s < n → w < n → (s ≢ w) → P s w (least_in s w)
