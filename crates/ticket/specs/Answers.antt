-- What a ticket is answered, for every text and whatever the memory that is handed in holds, and what is left in that memory.
use Rattle.std.specs.Prelude.{◌≡◌, ℕ, ◌<◌, ◌≤◌, ◌⊎◌, List, [], length, drop, Some, None, Ok, Err, Option, Result}
use Rattle.costs.specs.declared.Cost.{Ghosts as Kind}
use Rattle.registers.specs.Fault.{first_cause}
use Rattle.lent.specs.declared.list.Entry.{Entry}
use Rattle.bay.specs.Buffers.{Buffers, buffers, in_front}
use Rattle.bay.specs.Routing.{RouteAnswer}
use Rattle.bay.specs.declared.cells.Cell.{Cell}
use Rattle.bay.specs.declared.fault.BayFault.{BayFault}
use Rattle.bay.specs.declared.legs.Ends.{Ends}
use Rattle.bay.specs.declared.legs.Leg.{Leg}
use Rattle.lines.specs.Grammar.{IsRead, IsRefused}
use Rattle.lines.specs.declared.line.Line.TheVariants.{Bay}
use Rattle.lines.specs.declared.line.Read.{Read}
use Rattle.lines.specs.declared.line.Stage.TheVariants.{Start}
use Rattle.ticket.specs.Kinds.{ReadAs}
use Rattle.ticket.specs.Faults.{at_byte, told_by}
use Rattle.ticket.specs.Said.{Said, begins, bay_causes, ticket_entries, Stops, Completes}
use Rattle.ticket.specs.declared.fault.Refusal.{Refusal}
use Rattle.ticket.specs.declared.fault.TicketFault.TheVariants.{TooLong, Unfit}
use Rattle.ticket.specs.declared.serve.BayLine.{BayLine}
use Rattle.ticket.specs.declared.serve.Memory.{Memory}

-- a ticket may have so many bytes
abbrev pub most_bytes : ℕ
most_bytes = 32_768

-- refused for the length, at the first byte that is too many
pub record OverLong (text : List ℕ) (refusal : Refusal) : Type 0 where
  pub long : most_bytes < length text
  pub told : refusal ≡ record { fault = TooLong; byte = most_bytes }

-- refused where a bay line is due
pub record NoBay (text : List ℕ) (refusal : Refusal) : Type 0 where
  pub short : length text ≤ most_bytes
  pub unfit : refusal.fault ≡ Unfit
  pub refused : IsRefused Start text 0 refusal.byte

-- a bay line is there
pub record HasBay (text : List ℕ) (bay : BayLine) : Type 0 where
  pub short : length text ≤ most_bytes
  pub read : Read
  pub is_read : IsRead Start text 0 read
  pub line_is : read.line ≡ Bay bay.kind bay.size
  pub end_is : read.end ≡ bay.end

-- what the first line of a ticket is answered
abbrev pub BayAnswer : List ℕ → Result BayLine Refusal → Type 0
BayAnswer text (Ok bay) = HasBay text bay
BayAnswer text (Err refusal) = OverLong text refusal ⊎ NoBay text refusal

-- what lies in the memory that is handed in for a ticket
pub record Contents (C : Type 0) : Type 0 where
  pub entries : List (Option (Entry C))
  pub buffers : Buffers C
  pub codes : List (List ℕ)
  pub ends : List Ends

abbrev pub contents : {C : Type 0} → Memory C → Contents C
contents m = record { entries = m.entries.now; buffers = buffers m.table.now m.costs.now m.chains.now; codes = m.codes.now; ends = m.ends.now }

-- the same without entries, which a bay holds
abbrev pub lent_contents : {C : Type 0} → List (Cell C) → List C → List ℕ → List (List ℕ) → List Ends → Contents C
lent_contents table costs chains codes ends = record { entries = []; buffers = buffers table costs chains; codes = codes; ends = ends }

-- the places lent are the same ones after a call, and as long as they were
pub record SameMemory {C : Type 0} (m m' : Memory C) : Type 0 where
  pub entries : m'.entries.ghost_name ≡ m.entries.ghost_name
  pub table : m'.table.ghost_name ≡ m.table.ghost_name
  pub costs : m'.costs.ghost_name ≡ m.costs.ghost_name
  pub chains : m'.chains.ghost_name ≡ m.chains.ghost_name
  pub codes : m'.codes.ghost_name ≡ m.codes.ghost_name
  pub ends : m'.ends.ghost_name ≡ m.ends.ghost_name
  pub entries_long : length m'.entries.now ≡ length m.entries.now
  pub table_long : length m'.table.now ≡ length m.table.now
  pub costs_long : length m'.costs.now ≡ length m.costs.now
  pub chains_long : length m'.chains.now ≡ length m.chains.now
  pub codes_long : length m'.codes.now ≡ length m.codes.now
  pub ends_long : length m'.ends.now ≡ length m.ends.now

module _ {C : Type 0} (K : Kind C) (R : ReadAs C) (text : List ℕ) (from : ℕ) (m m' : Contents C) (answer : Result ℕ Refusal) where
  module _ (s : Said K) where
    -- a line from `from` on is refused
    pub record TicketRefused : Type 0 where
      pub refusal : Refusal
      pub stops : Stops K R text s from (told_by refusal)
      pub answers : answer ≡ Err refusal
      pub untouched : m'.buffers ≡ m.buffers

    -- Every line passes up to the end line at `place`. A route is made on the plain bay that they have made, and its answer is
    -- the ticket's; the codes and the ends of the legs are written.
    pub record TicketRouted : Type 0 where
      pub place : ℕ
      pub then : Said K
      pub completes : Completes K R text s from place then
      pub legs : List Leg
      pub noted : List Leg
      pub result : Result ℕ BayFault
      pub route : RouteAnswer then.plain legs noted m.buffers m'.buffers result
      pub answers : answer ≡ at_byte place result
      pub codes : m'.codes ≡ in_front then.codes m.codes
      pub ends : m'.ends ≡ in_front then.plain.legs m.ends

    -- what the lines from `from` on are answered, after s
    abbrev pub LinesAnswer : Type 0
    LinesAnswer = TicketRefused ⊎ TicketRouted

  -- the bay line is refused
  pub record BayRefused (n : ℕ) : Type 0 where
    pub refusal : Refusal
    pub cause : first_cause (bay_causes R.kind n (length m.entries)) ≡ Some (told_by refusal)
    pub answers : answer ≡ Err refusal
    pub untouched : m' ≡ m

  -- the bay line passes
  pub record BayPasses (n : ℕ) : Type 0 where
    pub no_cause : first_cause (bay_causes R.kind n (length m.entries)) ≡ None
    pub lines : LinesAnswer (begins n)

  -- what a ticket is answered, after its bay line for n formats; entries that it does not use are as they were
  pub record KindAnswer (n : ℕ) : Type 0 where
    pub answered : BayRefused n ⊎ BayPasses n
    pub beyond : drop ticket_entries m'.entries ≡ drop ticket_entries m.entries
