-- The house table: eight formats, kind delay, every pair sealed, no free place.
use Rattle.std.specs.Prelude.{ℕ, ◌+◌, ◌*◌, true, List, [], ◌∷◌, ℤ, pos, negsuc, Some, None, Option, slice_index_or}
use Rattle.std.specs.Option.{option_map}
use Rattle.costs.specs.declared.delay.Delay.{Delay}
use Rattle.registers.specs.Meaning.{Meaning}

abbrev pub house_size : ℕ
house_size = 8

-- a place for each pair
abbrev pub house_places : ℕ
house_places = house_size * house_size

-- so many half lines
abbrev p : ℕ → Option ℤ
p n = Some (pos n)

-- a line given back
abbrev back : Option ℤ
back = Some (negsuc 1)

-- no card
abbrev o : Option ℤ
o = None

-- half lines: a row for each format as `from`, a column for each as `to`
abbrev pub house_cards : List (Option ℤ)
house_cards =
    o ∷ p 8 ∷ p 2 ∷ p 10 ∷ o ∷ o ∷ p 8 ∷ o ∷
    back ∷ o ∷ o ∷ o ∷ o ∷ p 4 ∷ p 2 ∷ o ∷
    p 2 ∷ o ∷ o ∷ o ∷ o ∷ o ∷ o ∷ o ∷
    back ∷ o ∷ o ∷ o ∷ p 4 ∷ p 4 ∷ o ∷ o ∷
    o ∷ o ∷ o ∷ back ∷ o ∷ o ∷ o ∷ o ∷
    o ∷ p 0 ∷ o ∷ p 2 ∷ o ∷ o ∷ o ∷ o ∷
    p 4 ∷ o ∷ o ∷ o ∷ o ∷ o ∷ o ∷ p 0 ∷
    o ∷ o ∷ o ∷ o ∷ p 14 ∷ o ∷ p 0 ∷ o ∷ []

-- the number that stands for a card in the table: no card is the least of 32 bits
abbrev pub number : Option ℤ → ℤ
number None = negsuc 2_147_483_647
number (Some z) = z

-- a delay of so many half lines
abbrev pub delayed : ℤ → Delay
delayed z = record { half_lines = z }

abbrev pub house : Meaning Delay
house = record {
  size = house_size;
  cards = λ a b. option_map delayed (slice_index_or house_cards (a * house_size + b) None);
  sealed = λ a b. true;
  free = 0;
}
