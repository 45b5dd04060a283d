-- What a host in C is told, as numbers.
use Rattle.std.specs.Prelude.{◌≡◌, ℕ, ◌+◌, ◌*◌, ◌^◌, ◌≤◌, min, Bool, ◌&&◌, ◌||◌, cond, ◌==◌, nat_lt, List, length, ℤ, Some, None, Ok, Err, Option, Result}
use Rattle.std.specs.List.{prefix_len}
use Rattle.std.specs.Result.{result_unwrap_or}
use Rattle.costs.specs.declared.Cost.{Ghosts as Kind}
use Rattle.costs.specs.declared.delay.Delay.{Delay}
use Rattle.registers.specs.Fault.{after}
use Rattle.registers.specs.House.{house_places, house_size}
use Rattle.registers.specs.Meaning.{most_formats}
use Rattle.registers.specs.declared.fault.Code.{Code}
use Rattle.registers.specs.declared.fault.Layer.{Layer}
use Rattle.registers.specs.declared.fault.Layer.TheVariants as layer
use Rattle.bay.specs.declared.cells.Cell.{Cell}
use Rattle.bay.specs.Buffers.{buffers}
use Rattle.bay.specs.Faults.{refused}
use Rattle.bay.specs.Limits.{most_legs}
use Rattle.bay.specs.declared.fault.BayFault.{BayFault}
use Rattle.bay.specs.declared.legs.Ends.{Ends}
use Rattle.listing.specs.Answered.{Listed}
use Rattle.listing.specs.declared.answer.PlaceShort.{PlaceShort}
use Rattle.listing.specs.declared.answer.TicketAnswer.{TicketAnswer}
use Rattle.ticket.specs.Faults.{ticket_code}
use Rattle.ticket.specs.declared.fault.Refusal.{Refusal}
use Rattle.direct.specs.Cards.{CardsAnswer}
use Rattle.direct.specs.Forks.{CardsForked, TableForked}
use Rattle.direct.specs.Loaded.{TableAnswer}
use Rattle.tables.specs.Tables.{TableVerdict}
use Rattle.hurzelma.specs.declared.Verdict.{Verdict}

-- as many cells as a call over the most formats wants
abbrev pub most_cells : ℕ
most_cells = most_formats * most_formats

abbrev pub layer_number : Layer → ℕ
layer_number layer.Ticket = 1
layer_number layer.Bay = 2
layer_number layer.Register = 3

-- layer, number and part, a byte each
abbrev pub fault_number : Code → ℕ
fault_number c = layer_number c.layer * 65_536 + c.number * 256 + c.part

-- 0 where a call is granted
abbrev pub status : Option Code → ℕ
status None = 0
status (Some c) = fault_number c

-- what the number of a leg is told in
abbrev pub leg_unit : ℕ
leg_unit = 2 ^ 24

-- a leg between two of n formats
abbrev pub is_within : ℕ → Ends → Bool
is_within n leg = nat_lt leg.from n && nat_lt leg.to n

-- how many legs in front can be booked, which is the number of the first that cannot
abbrev pub bookable : ℕ → List Ends → ℕ
bookable n legs = min (prefix_len (is_within n) legs) most_legs

-- one of the causes for which a leg is not booked: an end of it is outside, or no place is left for it
abbrev pub is_of_leg : Code → Bool
is_of_leg c = (layer_number c.layer == 2) && (((c.number == 11) && nat_lt c.part 2) || (c.number == 24))

-- the number of the first leg that cannot be booked, where that is why a route is refused
abbrev pub leg_told : ℕ → List Ends → Option Code → ℕ
leg_told n legs None = 0
leg_told n legs (Some c) = cond (is_of_leg c) (bookable n legs) 0

-- what is told of a route over n formats: as of every call, and above that the number of a leg
abbrev pub route_status : ℕ → List Ends → Option Code → ℕ
route_status n legs cause = leg_told n legs cause * leg_unit + status cause

-- The route over the cards that are handed in, in some table that is long enough for n formats, where n is one that a register
-- can have.
pub record RouteTold {C : Type 0} (K : Kind C) (n : ℕ) (cards : List C) (legs : List Ends) (costs costs' : List C) (chains chains' : List ℕ) (r : ℕ) : Type 0 where
  pub table : List (Cell C)
  pub table' : List (Cell C)
  pub room : n ≤ most_formats → n * n ≤ length table
  pub answer : Result ℕ BayFault
  pub right : CardsAnswer K n cards legs (buffers table costs chains) (buffers table' costs' chains') answer
  pub number : r ≡ route_status n legs (refused answer)

-- The fork over the cards that are handed in, in some table that is long enough for n formats, where n is one that a register can
-- have. The split is told in a place of its own, which a refusal leaves as it was.
pub record ForkTold {C : Type 0} (K : Kind C) (n : ℕ) (cards : List C) (input first second : ℕ) (costs costs' : List C) (chains chains' : List ℕ) (split split' r : ℕ) : Type 0 where
  pub table : List (Cell C)
  pub table' : List (Cell C)
  pub room : n ≤ most_formats → n * n ≤ length table
  pub answer : Result ℕ BayFault
  pub right : CardsForked K n cards input first second (buffers table costs chains) (buffers table' costs' chains') answer
  pub split_is : split' ≡ result_unwrap_or answer split
  pub number : r ≡ status (refused answer)

-- The check of a table into a place, which is written where it is granted.
pub record TableTold (numbers before after' : List ℤ) (r : ℕ) : Type 0 where
  pub answer : Option Code
  pub judged : TableVerdict numbers (length before) answer
  pub place : after' ≡ after answer before numbers
  pub number : r ≡ status answer

-- The route over the table in a place, in some working table that is long enough for it.
pub record TableRouteTold (place : List ℤ) (bits : ℕ) (legs : List Ends) (costs costs' : List Delay) (chains chains' : List ℕ) (r : ℕ) : Type 0 where
  pub table : List (Cell Delay)
  pub table' : List (Cell Delay)
  pub room : house_places ≤ length table
  pub answer : Result ℕ BayFault
  pub right : TableAnswer place bits legs (buffers table costs chains) (buffers table' costs' chains') answer
  pub number : r ≡ route_status house_size legs (refused answer)

-- The fork over the table in a place, in some working table that is long enough for it.
pub record TableForkTold (place : List ℤ) (bits input first second : ℕ) (costs costs' : List Delay) (chains chains' : List ℕ) (split split' r : ℕ) : Type 0 where
  pub table : List (Cell Delay)
  pub table' : List (Cell Delay)
  pub room : house_places ≤ length table
  pub answer : Result ℕ BayFault
  pub right : TableForked place bits input first second (buffers table costs chains) (buffers table' costs' chains') answer
  pub split_is : split' ≡ result_unwrap_or answer split
  pub number : r ≡ status (refused answer)

-- what a ticket's call answers: 0, and the length that was written; or 1, and the length that is needed
abbrev pub TextStatus : Result ℕ PlaceShort → ℕ → ℕ → Type 0
TextStatus (Ok n) len r = (len ≡ n) × (r ≡ 0)
TextStatus (Err e) len r = (len ≡ e.needed) × (r ≡ 1)

-- layer, number, part and byte of a refusal, and 0 four times where there is none
abbrev pub verdict_of : Result ℕ Refusal → Verdict
verdict_of (Ok n) = record { layer = 0; number = 0; part = 0; byte = 0 }
verdict_of (Err f) = let c = ticket_code f.fault in record { layer = layer_number c.layer; number = c.number; part = c.part; byte = f.byte }

-- The answer to a ticket, as text in the place and as four numbers.
pub record TextTold (text : List ℕ) (place place' : List ℕ) (len : ℕ) (v : Verdict) (r : ℕ) : Type 0 where
  pub answer : TicketAnswer
  pub listed : Listed text place place' answer
  pub told : TextStatus answer.text len r
  pub verdict : v ≡ verdict_of answer.verdict
