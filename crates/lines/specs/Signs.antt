-- The signs that a ticket is written with, and the sort of each.
use Rattle.std.specs.Prelude.{ℕ, Bool, cond, ◌&&◌, ◌||◌, ◌==◌, nat_le}
use Rattle.lines.specs.declared.sort.Sort.{Sort}
use Rattle.lines.specs.declared.sort.Sort.TheVariants.{Open, Close, Space, Minus, Point, Digit, Letter, LineEnd, Strange}

abbrev pub between : ℕ → ℕ → ℕ → Bool
between low high c = nat_le low c && nat_le c high

-- 0 to 9
abbrev pub digit : ℕ → Bool
digit c = between 48 57 c

-- a to z, A to Z
abbrev pub letter : ℕ → Bool
letter c = between 97 122 c || between 65 90 c

abbrev pub line_end : ℕ
line_end = 10

abbrev pub sort_of : ℕ → Sort
sort_of c =
    cond (c == 40) Open (
    cond (c == 41) Close (
    cond (c == 32) Space (
    cond (c == 45) Minus (
    cond (c == 46) Point (
    cond (digit c) Digit (
    cond (letter c) Letter (
    cond (c == line_end) LineEnd Strange)))))))
