-- A ticket's text in, and the text of its answer out.
use Rattle.std.specs.Prelude.{◌≡◌, ℕ, ◌*◌, ◌≤◌, ◌⊎◌, List, length, Ok, Err, Result}
use Rattle.costs.specs.declared.Cost.{Ghosts as CostKind}
use Rattle.costs.specs.Kinds.{delays, depths, boths}
use Rattle.registers.specs.Meaning.{most_formats}
use Rattle.bay.specs.Limits.{most_legs}
use Rattle.bay.specs.Sheet.{row_bytes}
use Rattle.lines.specs.declared.line.Kind.{Kind}
use Rattle.lines.specs.declared.line.Kind.TheVariants as kind
use Rattle.ticket.specs.Answers.{Contents, HasBay, KindAnswer, BayAnswer}
use Rattle.ticket.specs.Faults.{ticket_code}
use Rattle.ticket.specs.Kinds.{read_as}
use Rattle.ticket.specs.Texts.{CostTexts, delay_texts, depth_texts, both_texts}
use Rattle.ticket.specs.Said.{ticket_entries}
use Rattle.ticket.specs.declared.fault.Refusal.{Refusal}
use Rattle.ticket.specs.declared.serve.BayLine.{BayLine}
use Rattle.ticket_laws.specs.Whole.{Whole}
use Rattle.listing.specs.declared.answer.TicketAnswer.{TicketAnswer}
use Rattle.listing.specs.Output.{Printed}
use Rattle.listing.specs.Text.{code_line, text_from}

-- memory that will do for every ticket
pub record Ample {C : Type 0} (m : Contents C) : Type 0 where
  pub entries : ticket_entries ≤ length m.entries
  pub table : most_formats * most_formats ≤ length m.buffers.table
  pub costs : most_legs ≤ length m.buffers.costs
  pub chains : row_bytes * most_legs ≤ length m.buffers.chains
  pub codes : length m.codes ≡ most_formats
  pub ends : length m.ends ≡ most_legs

-- what a granted ticket is, whose bay line was read
abbrev pub WholeIf : {C : Type 0} → CostKind C → CostTexts C → List ℕ → BayLine → Contents C → Result ℕ Refusal → Type 0
WholeIf K T text bay m (Ok legs) = HasBay text bay → Whole K T.reads text bay.kind bay.size legs m.buffers.costs m.buffers.chains
WholeIf K T text bay m (Err refusal) = Unit {0}

-- A ticket whose bay line was read is answered; a granted one has least chains for its legs over the cards that its text says;
-- and its answer's text, from what is then in the memory, is printed into the place.
pub record Answered {C : Type 0} (K : CostKind C) (T : CostTexts C) (text : List ℕ) (bay : BayLine) (m m' : Contents C) (place place' : List ℕ) (a : TicketAnswer) : Type 0 where
  pub right : KindAnswer K (read_as bay.kind T.reads) text bay.end m m' a.verdict bay.size
  pub whole : WholeIf K T text bay m' a.verdict
  pub printed : Printed place place' (text_from T.writes m' a.verdict) a.text

-- The same in some memory that will do for every ticket, so that no memory is ever too short.
pub record ListedOf {C : Type 0} (K : CostKind C) (T : CostTexts C) (text : List ℕ) (bay : BayLine) (place place' : List ℕ) (a : TicketAnswer) : Type 0 where
  pub before : Contents C
  pub after : Contents C
  pub ample : Ample before
  pub answered : Answered K T text bay before after place place' a

-- what is listed of a ticket of each kind
abbrev pub ListedAs : Kind → List ℕ → BayLine → List ℕ → List ℕ → TicketAnswer → Type 0
ListedAs kind.Delay = ListedOf delays delay_texts
ListedAs kind.Depth = ListedOf depths depth_texts
ListedAs kind.Both = ListedOf boths both_texts

-- a ticket is refused at its first line
pub record RefusedAtBay (text place place' : List ℕ) (a : TicketAnswer) : Type 0 where
  pub refusal : Refusal
  pub answers : BayAnswer text (Err refusal)
  pub verdict : a.verdict ≡ Err refusal
  pub printed : Printed place place' (code_line (ticket_code refusal.fault) refusal.byte) a.text

-- A ticket is refused at its first line, or answered as its kind is.
abbrev pub Listed : List ℕ → List ℕ → List ℕ → TicketAnswer → Type 0
Listed text place place' a = RefusedAtBay text place place' a ⊎ ((bay : BayLine) × HasBay text bay × ListedAs bay.kind text bay place place' a)
