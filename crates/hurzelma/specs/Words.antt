-- The words of each cause, and the number that tells it.
use Rattle.std.specs.Prelude.{◌≡◌, ℕ, Bool, ◌&&◌, cond, ◌==◌, ◌%◌, ◌<◌, ◌≤◌, ◌+◌, List, [], ◌∷◌, ◌++◌, codes, drop, length, nat_le, nat_lt}
use Rattle.registers.specs.House.{house_places}
use Rattle.registers.specs.declared.fault.RegisterFault.{RegisterFault}
use Rattle.registers.specs.declared.fault.RegisterFault.TheVariants as register
use Rattle.bay.specs.declared.fault.BayFault.{BayFault}
use Rattle.bay.specs.declared.fault.BayFault.TheVariants as bay
use Rattle.tables.specs.Faults.{table_code}
use Rattle.tables.specs.declared.fault.TableFault.{TableFault}
use Rattle.tables.specs.declared.fault.TableFault.TheVariants as table
use Rattle.ticket.specs.Faults.{ticket_code}
use Rattle.ticket.specs.declared.fault.TicketFault.{TicketFault}
use Rattle.ticket.specs.declared.fault.TicketFault.TheVariants as ticket
use Rattle.hurzelma.specs.Host.{fault_number, leg_unit}
use Rattle.hurzelma.specs.declared.words.Cause.{Cause}
use Rattle.hurzelma.specs.declared.words.Cause.TheVariants.{Ticket, Table}
use Rattle.hurzelma.specs.declared.words.TheConstants.{CAUSES}

abbrev pub register_words : RegisterFault → List ℕ
register_words register.FromOutside = codes "the card's first format does not exist"
register_words register.ToOutside = codes "the card's second format does not exist"
register_words register.SameEnds = codes "the card leads from a format to itself"
register_words register.CostNotAdmitted = codes "no card may have this cost"
register_words register.SizeUnfit = codes "no register has so many formats"
register_words register.MemoryUnfit = codes "the register's memory is too short"
register_words register.Sealed = codes "the pair is sealed"
register_words register.NoCard = codes "the pair to withdraw has no card"
register_words register.NoPlace = codes "no place is left for another card"

abbrev pub bay_words : BayFault → List ℕ
bay_words (bay.Register f) = register_words f
bay_words bay.FromOutside = codes "the leg's first format or a fork's input does not exist"
bay_words bay.ToOutside = codes "the leg's second format or a fork's first output does not exist"
bay_words bay.SecondOutside = codes "a fork's second output does not exist"
bay_words bay.NoLeg = codes "no leg has this number"
bay_words bay.TableShort = codes "the table is too short"
bay_words bay.CostsShort = codes "the cost sheet is too short"
bay_words bay.ChainsShort = codes "the chain sheet is too short"
bay_words bay.AnswersShort = codes "the answers are too few"
bay_words bay.LegsFull = codes "no place is left for another leg"
bay_words bay.NoLegs = codes "no leg is booked"
bay_words bay.Loop = codes "a loop of cards undercuts the unit"
bay_words bay.NoSplit = codes "no walk leads from the input to one of its outputs"

abbrev pub ticket_words : TicketFault → List ℕ
ticket_words (ticket.Bay f) = bay_words f
ticket_words ticket.TooLong = codes "the ticket is too long"
ticket_words ticket.Unfit = codes "no line that is allowed here has this byte"
ticket_words ticket.OutOfField = codes "the number lies outside of its field"
ticket_words ticket.CodeUsed = codes "an earlier format has the code"

abbrev pub table_words : TableFault → List ℕ
table_words table.LengthUnfit = codes "the table or its place has another length"
table_words (table.NumberUnfit i) = codes "the number may not stand at its index"
table_words table.Loop = codes "a loop of the table's cards undercuts the unit"

abbrev pub cause_words : Cause → List ℕ
cause_words (Ticket f) = ticket_words f
cause_words (Table f) = table_words f

abbrev pub cause_number : Cause → ℕ
cause_number (Ticket f) = fault_number (ticket_code f)
cause_number (Table f) = fault_number (table_code f)

-- the words of the first of some causes that is told by a number
abbrev pub words_in : List Cause → ℕ → List ℕ
words_in [] told = []
words_in (c ∷ cs) told = cond (cause_number c == told) (cause_words c) (words_in cs told)

-- one number of a table is told
abbrev pub is_of_number : ℕ → Bool
is_of_number told =
    let first = cause_number (Table (table.NumberUnfit 0)) in
    nat_le first told && nat_lt told (first + house_places)

abbrev pub words_told : ℕ → List ℕ
words_told told = cond (is_of_number told) (table_words (table.NumberUnfit 0)) (words_in CAUSES told)

-- a cause is told by a number that has its words, and these are some
pub record HasWords (c : Cause) : Type 0 where
  pub words : words_told (cause_number c) ≡ cause_words c
  pub some : 0 < length (cause_words c)

-- every cause has words, also that of each number of a table
pub record EachCauseHasWords : Type 0 where
  pub tickets : (f : TicketFault) → HasWords (Ticket f)
  pub lengths : HasWords (Table table.LengthUnfit)
  pub numbers : (i : ℕ) → i < house_places → HasWords (Table (table.NumberUnfit i))
  pub loops : HasWords (Table table.Loop)

-- A text stands in front of the place and the rest is as it was; or the place is too short for it, and is as it was. Its length is
-- told.
pub record TextPut (text place place' : List ℕ) (len r : ℕ) : Type 0 where
  pub long : len ≡ length text
  pub written : length text ≤ length place → (r ≡ 0) × (place' ≡ text ++ drop (length text) place)
  pub short : length place < length text → (r ≡ 1) × (place' ≡ place)

-- the words of the fault that is told, with whatever leg
abbrev pub WordsTold : ℕ → List ℕ → List ℕ → ℕ → ℕ → Type 0
WordsTold told = TextPut (words_told (told % leg_unit))

-- no words are longer
abbrev pub most_words : ℕ
most_words = 64
