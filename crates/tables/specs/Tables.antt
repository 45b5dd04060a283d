-- Tables of a customer's: numbers of half lines, row by row, a row for each format as `from`. When they pass, and which register
-- they make.
use Rattle.std.specs.Prelude.{◌≡◌, ◌≢◌, ℕ, ◌+◌, ◌*◌, ◌/◌, ◌%◌, ◌<◌, true, cond, ◌⊎◌, List, [], length, map, ℤ, Some, None, Option, slice_index_or}
use Rattle.costs.specs.declared.delay.Delay.{Delay}
use Rattle.costs.specs.Delay.{delay}
use Rattle.costs.specs.Kind.{admits}
use Rattle.costs.specs.Kinds.{delays}
use Rattle.registers.specs.Fault.{code}
use Rattle.registers.specs.House.{delayed, house_cards, house_places, house_size, number}
use Rattle.registers.specs.Meaning.{Meaning, stands}
use Rattle.registers.specs.declared.fault.Code.{Code}
use Rattle.registers.specs.declared.fault.Layer.TheVariants.{Register}
use Rattle.walks.specs.Walk.{Gains}

-- the number that stands for no card
abbrev pub no_card : ℤ
no_card = number None

-- the card that a number stands for: none, unless a card may have that delay
abbrev pub card_of : ℤ → Option Delay
card_of z = cond (admits delays (delayed z)) (Some (delayed z)) None

-- the card at an index, and none where there is no number
abbrev pub card_at : List ℤ → ℕ → Option Delay
card_at numbers index = card_of (slice_index_or numbers index no_card)

-- what numbers hold as a register: eight formats, kind delay, every pair sealed, no free place
abbrev pub table_of : List ℤ → Meaning Delay
table_of numbers = record {
  size = house_size;
  cards = λ a b. card_at numbers (a * house_size + b);
  sealed = λ a b. true;
  free = 0;
}

-- a closed walk over the cards that stand undercuts the unit
abbrev pub Gaining : List ℤ → Type 0
Gaining numbers = Gains delay (stands delays (table_of numbers))

-- the number may stand at the index: it is the one for no card, or elsewhere than on the diagonal a card may have the delay
abbrev pub Suits : ℕ → ℤ → Type 0
Suits index z = (z ≡ no_card) ⊎ ((index / house_size ≢ index % house_size) × (admits delays (delayed z) ≡ true))

module _ (numbers : List ℤ) where
  abbrev pub SuitsAt : ℕ → Type 0
  SuitsAt index = Suits index (slice_index_or numbers index no_card)

  -- every number may stand at its index
  abbrev pub AllSuit : Type 0
  AllSuit = (index : ℕ) → index < house_places → SuitsAt index

  -- it is the first that may not
  pub record FirstUnfit (index : ℕ) : Type 0 where
    pub inside : index < house_places
    pub unfit : SuitsAt index → ⊥
    pub first : (i : ℕ) → i < index → SuitsAt i

  -- the numbers pass the check: there are as many as pairs, each may stand at its index, and no closed walk undercuts the unit
  pub record PassesCheck : Type 0 where
    pub long : length numbers ≡ house_places
    pub suit : AllSuit
    pub no_loop : Gaining numbers → ⊥

  -- there are as many numbers as pairs, and room for just so many
  abbrev pub LengthsFit : ℕ → Type 0
  LengthsFit room = (length numbers ≡ house_places) × (room ≡ house_places)

  module _ (room : ℕ) (answer : Option Code) where
    -- there are more or fewer numbers, or more or less room
    pub record LengthTold : Type 0 where
      pub unfit : LengthsFit room → ⊥
      pub answers : answer ≡ Some (code Register 28 house_places)

    -- a number may not stand where it does
    pub record NumberTold : Type 0 where
      pub long : LengthsFit room
      pub index : ℕ
      pub first : FirstUnfit index
      pub answers : answer ≡ Some (code Register 28 index)

    -- a closed walk undercuts the unit
    pub record LoopTold : Type 0 where
      pub long : LengthsFit room
      pub suit : AllSuit
      pub gains : Gaining numbers
      pub answers : answer ≡ Some (code Register 29 0)

    -- nothing stands against it
    pub record PassTold : Type 0 where
      pub passes : PassesCheck
      pub place : room ≡ house_places
      pub answers : answer ≡ None

    -- What the check answers of numbers for which there is so much room: the first of its causes, if one holds.
    abbrev pub TableVerdict : Type 0
    TableVerdict = LengthTold ⊎ (NumberTold ⊎ (LoopTold ⊎ PassTold))

  -- the register made of a place: the table where the check would pass it, and else one without a card
  abbrev pub MadeOf : Meaning Delay → Type 0
  MadeOf m = (PassesCheck × (m ≡ table_of numbers)) ⊎ ((PassesCheck → ⊥) × (m ≡ table_of []))

-- our own table, as such numbers
abbrev pub own_numbers : List ℤ
own_numbers = map number house_cards
