-- How many bytes the text of an answer has at most, whatever the answer.
use Rattle.std.specs.Prelude.{ℕ, ◌+◌, ◌*◌, ◌<◌, ◌≤◌, List, length, Ok, Err, Result}
use Rattle.bay.specs.Limits.{most_legs}
use Rattle.bay.specs.Sheet.{most_in_row}
use Rattle.listing.specs.declared.answer.PlaceShort.{PlaceShort}

-- a number that the machine holds, and its sign
abbrev pub most_digits : ℕ
most_digits = 20

-- a delay and a depth: two numbers, and a minus, half a line, a space and brackets
abbrev pub most_amount : ℕ
most_amount = 2 * most_digits + 6

-- the codes of a row, four bytes each, with a space for each
abbrev pub most_codes : ℕ
most_codes = 5 * most_in_row

-- what was found for a leg: the cost, a space, and the codes in brackets
abbrev pub most_found : ℕ
most_found = most_amount + most_codes + 3

-- a leg's line: three numbers, what was found, and twelve bytes besides
abbrev pub most_line : ℕ
most_line = 3 * most_digits + most_found + 12

-- the line of a refusal: a layer, three numbers, and fourteen bytes besides
abbrev pub most_refusal : ℕ
most_refusal = 3 * most_digits + 22

-- the line of a loop
abbrev pub most_loop : ℕ
most_loop = most_codes + 10

-- a line for each leg, and the end line
abbrev pub most_answer : ℕ
most_answer = most_legs * most_line + 6

-- The text of an answer has no more bytes than that, whether it was written or not. So a place of as many is never too short.
abbrev pub Brief : List ℕ → Result ℕ PlaceShort → Type 0
Brief place (Ok n) = n ≤ most_answer
Brief place (Err e) = (length place < e.needed) × (e.needed ≤ most_answer)
