-- The faults of a ticket: layer, number and part of every cause, and the byte that is told with it.
use Rattle.std.specs.Prelude.{ℕ, Some, None, Ok, Err, Option, Result}
use Rattle.registers.specs.Fault.{code}
use Rattle.registers.specs.declared.fault.Code.{Code}
use Rattle.registers.specs.declared.fault.Layer.TheVariants.{Ticket}
use Rattle.bay.specs.Faults.{bay_code}
use Rattle.bay.specs.declared.fault.BayFault.{BayFault}
use Rattle.lines.specs.declared.line.Unfit.{Unfit as NoLine}
use Rattle.ticket.specs.declared.fault.Refusal.{Refusal}
use Rattle.ticket.specs.declared.fault.TicketFault.{TicketFault}
use Rattle.ticket.specs.declared.fault.TicketFault.TheVariants.{TooLong, Unfit, OutOfField, CodeUsed, Bay}

abbrev pub ticket_code : TicketFault → Code
ticket_code TooLong = code Ticket 1 0
ticket_code Unfit = code Ticket 2 0
ticket_code OutOfField = code Ticket 3 0
ticket_code CodeUsed = code Ticket 4 0
ticket_code (Bay f) = bay_code f

-- a bay's fault as the ticket's
abbrev pub passed_on : BayFault → TicketFault
passed_on f = Bay f

-- where no line can be read
abbrev pub unfit_at : NoLine → Refusal
unfit_at u = record { fault = Unfit; byte = u.byte }

-- what a refused ticket is told: layer, number and part, and a byte of it
pub record Told : Type 0 where
  pub code : Code
  pub byte : ℕ

abbrev pub told : ℕ → Code → Told
told byte code = record { code = code; byte = byte }

abbrev pub told_by : Refusal → Told
told_by r = told r.byte (ticket_code r.fault)

-- a call's answer, with the byte of the line that made it
abbrev pub at_byte : {X : Type 0} → ℕ → Result X BayFault → Result X Refusal
at_byte byte (Ok x) = Ok x
at_byte byte (Err f) = Err (record { fault = Bay f; byte = byte })

-- what an answer tells: none where it was granted
abbrev pub told_of : {X : Type 0} → Result X Refusal → Option Told
told_of (Ok x) = None
told_of (Err r) = Some (told_by r)
