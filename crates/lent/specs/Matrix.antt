-- The matrix: a place for each pair of n formats, row by row, with a row for each format as `from`.
use Rattle.std.specs.Prelude.{ℕ, ◌+◌, ◌-◌, ◌*◌, Bool, cond, not, ◌&&◌, List, ◌++◌, length, drop, replicate, None, Option, nat_le, slice_index_or}
use Rattle.costs.specs.declared.Cost.{Ghosts as Kind}
use Rattle.costs.specs.Kind.{admits}
use Rattle.registers.specs.declared.fault.Code.{Code}
use Rattle.lent.specs.declared.matrix.Matrix.{Matrix}
use Rattle.registers.specs.Meaning.{Meaning, meant, possible}
use Rattle.lent.specs.Lent.{size_fits, nearest_size, memory_causes, how_many, readable}

-- so many places will do for n formats
abbrev pub matrix_fits : ℕ → ℕ → Bool
matrix_fits n places = size_fits n && nat_le (n * n) places

-- why the check before the making refuses
abbrev pub matrix_causes : ℕ → ℕ → List (Bool × Code)
matrix_causes n places = memory_causes n (nat_le (n * n) places)

module _ {C : Type 0} (admissible : C → Bool) where
  -- the card of a pair, at its place
  abbrev pub matrix_card : ℕ → List (Option C) → ℕ → ℕ → Option C
  matrix_card n places a b = cond (matrix_fits n (length places) && possible n a b) (readable admissible (slice_index_or places (a * n + b) None)) None

  -- what a matrix holds; every pair without a card finds a place
  abbrev pub matrix : ℕ → List (Option C) → Meaning C
  matrix n places = record {
    size = nearest_size n;
    cards = matrix_card n places;
    sealed = λ a b. not (matrix_fits n (length places));
    free = cond (matrix_fits n (length places)) (n * (n - 1) - how_many n (matrix_card n places)) 0;
  }

-- what the register m holds, by what its costs mean
abbrev pub matrix_means : {C : Type 0} (K : Kind C) → Matrix C → Meaning K.algebra.Value
matrix_means K m = meant K (matrix (admits K) m.n m.places.now)

-- the memory once a matrix is made in it: the places that it uses are cleared, and where it will not do none is touched
abbrev pub matrix_cleared : {C : Type 0} → ℕ → List (Option C) → List (Option C)
matrix_cleared n places = cond (matrix_fits n (length places)) (replicate (n * n) None ++ drop (n * n) places) places
