-- A sheet of rows. A row has the number of formats of a chain, then its formats, then 255 to the row's end. The row of no
-- chain has the number 0.
use Rattle.std.specs.Prelude.{ℕ, ◌+◌, ◌-◌, ◌*◌, List, ◌∷◌, ◌++◌, length, take, drop, replicate}
use Rattle.registers.specs.Meaning.{most_formats}

-- a row has room for so many formats: a loop over all formats repeats its first
abbrev pub most_in_row : ℕ
most_in_row = most_formats + 1

-- the bytes of a row
abbrev pub row_bytes : ℕ
row_bytes = most_in_row + 1

-- what stands behind the formats of a row
abbrev pub no_format : ℕ
no_format = 255

abbrev pub row_of : List ℕ → List ℕ
row_of fs = length fs ∷ (fs ++ replicate (most_in_row - length fs) no_format)

-- row k of the sheet
abbrev pub row_at : List ℕ → ℕ → List ℕ
row_at sheet k = take row_bytes (drop (row_bytes * k) sheet)

-- the sheet with another row k
abbrev pub put_row : List ℕ → ℕ → List ℕ → List ℕ
put_row sheet k row = take (row_bytes * k) sheet ++ (row ++ drop (row_bytes * k + row_bytes) sheet)
