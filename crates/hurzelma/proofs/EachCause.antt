-- Every cause has words.
use Rattle.std.proofs.Common.{◌≡◌, ℕ, ◌<◌, true, refl, arith}
use Rattle.std.proofs.lemmas.Bool.{cond-true}
use Rattle.std.proofs.lemmas.Bool.Decides.{nat_tests}
use Rattle.registers.specs.House.{house_places}
use Rattle.registers.specs.declared.fault.RegisterFault.TheVariants as register
use Rattle.bay.specs.declared.fault.BayFault.TheVariants as bay
use Rattle.tables.specs.declared.fault.TableFault.TheVariants as table
use Rattle.ticket.specs.declared.fault.TicketFault.{TicketFault}
use Rattle.ticket.specs.declared.fault.TicketFault.TheVariants as ticket
use Rattle.hurzelma.specs.declared.words.Cause.TheVariants.{Ticket, Table}
use Rattle.hurzelma.specs.Words.{EachCauseHasWords, HasWords, cause_number, is_of_number, table_words, words_in}
use Rattle.hurzelma.specs.declared.words.TheConstants.{CAUSES}

ticket_has : (f : TicketFault) → HasWords (Ticket f)
ticket_has ticket.TooLong = record { words = refl; some = omega arith }
ticket_has ticket.Unfit = record { words = refl; some = omega arith }
ticket_has ticket.OutOfField = record { words = refl; some = omega arith }
ticket_has ticket.CodeUsed = record { words = refl; some = omega arith }
ticket_has (ticket.Bay bay.FromOutside) = record { words = refl; some = omega arith }
ticket_has (ticket.Bay bay.ToOutside) = record { words = refl; some = omega arith }
ticket_has (ticket.Bay bay.SecondOutside) = record { words = refl; some = omega arith }
ticket_has (ticket.Bay bay.NoLeg) = record { words = refl; some = omega arith }
ticket_has (ticket.Bay bay.TableShort) = record { words = refl; some = omega arith }
ticket_has (ticket.Bay bay.CostsShort) = record { words = refl; some = omega arith }
ticket_has (ticket.Bay bay.ChainsShort) = record { words = refl; some = omega arith }
ticket_has (ticket.Bay bay.AnswersShort) = record { words = refl; some = omega arith }
ticket_has (ticket.Bay bay.LegsFull) = record { words = refl; some = omega arith }
ticket_has (ticket.Bay bay.NoLegs) = record { words = refl; some = omega arith }
ticket_has (ticket.Bay bay.Loop) = record { words = refl; some = omega arith }
ticket_has (ticket.Bay bay.NoSplit) = record { words = refl; some = omega arith }
ticket_has (ticket.Bay (bay.Register register.FromOutside)) = record { words = refl; some = omega arith }
ticket_has (ticket.Bay (bay.Register register.ToOutside)) = record { words = refl; some = omega arith }
ticket_has (ticket.Bay (bay.Register register.SameEnds)) = record { words = refl; some = omega arith }
ticket_has (ticket.Bay (bay.Register register.CostNotAdmitted)) = record { words = refl; some = omega arith }
ticket_has (ticket.Bay (bay.Register register.SizeUnfit)) = record { words = refl; some = omega arith }
ticket_has (ticket.Bay (bay.Register register.MemoryUnfit)) = record { words = refl; some = omega arith }
ticket_has (ticket.Bay (bay.Register register.Sealed)) = record { words = refl; some = omega arith }
ticket_has (ticket.Bay (bay.Register register.NoCard)) = record { words = refl; some = omega arith }
ticket_has (ticket.Bay (bay.Register register.NoPlace)) = record { words = refl; some = omega arith }

is_number : (i : ℕ) → i < house_places → is_of_number (cause_number (Table (table.NumberUnfit i))) ≡ true
is_number i h = grind (arith, nat_tests)

number_has : (i : ℕ) → i < house_places → HasWords (Table (table.NumberUnfit i))
number_has i h = record {
  words = cond-true (is_of_number (cause_number (Table (table.NumberUnfit i)))) (table_words (table.NumberUnfit 0)) (words_in CAUSES (cause_number (Table (table.NumberUnfit i)))) (is_number i h);
  some = omega arith;
}

pub each_has : EachCauseHasWords
each_has = record {
  tickets = ticket_has;
  lengths = record { words = refl; some = omega arith };
  numbers = number_has;
  loops = record { words = refl; some = omega arith };
}
