-- The grid: the costs of all pairs of n formats, row by row, which are read and stay as they are.
use Rattle.std.specs.Prelude.{ℕ, ◌+◌, ◌*◌, Bool, cond, true, ◌&&◌, List, map, length, Some, None, Option, slice_index_or}
use Rattle.registers.specs.Meaning.{Meaning, possible}
use Rattle.lent.specs.Lent.{nearest_size, readable}
use Rattle.lent.specs.Matrix.{matrix_fits}

module _ {C : Type 0} (admits : C → Bool) where
  -- the cost at a place, where a card may have it
  abbrev pub cost_read : List C → ℕ → Option C
  cost_read costs place = readable admits (slice_index_or (map Some costs) place None)

  -- the card of a pair, at its place
  abbrev pub grid_card : ℕ → List C → ℕ → ℕ → Option C
  grid_card n costs a b = cond (matrix_fits n (length costs) && possible n a b) (cost_read costs (a * n + b)) None

  -- what a grid holds: every pair is sealed
  abbrev pub grid : ℕ → List C → Meaning C
  grid n costs = record { size = nearest_size n; cards = grid_card n costs; sealed = λ a b. true; free = 0 }
