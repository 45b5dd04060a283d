-- No text has two answers: what a ticket is told follows from its bytes and from how long the memory is that is handed in.
use Rattle.std.specs.Prelude.{◌≡◌, ℕ, List, Ok, Err, Result}
use Rattle.costs.specs.declared.Cost.{Ghosts as Kind}
use Rattle.lines.specs.declared.line.Amount.{Amount}
use Rattle.lines.specs.declared.line.Kind.{Kind as KindName}
use Rattle.ticket.specs.Answers.{BayAnswer, Contents, KindAnswer}
use Rattle.ticket.specs.Faults.{Told, told_by}
use Rattle.ticket.specs.Kinds.{read_as}
use Rattle.ticket.specs.declared.fault.Refusal.{Refusal}
use Rattle.ticket.specs.declared.serve.BayLine.{BayLine}

-- what an answer tells: what was granted, or a code and a byte
abbrev pub tells : {X : Type 0} → Result X Refusal → Result X Told
tells (Ok x) = Ok x
tells (Err refusal) = Err (told_by refusal)

-- Any two answers to the first line of one text tell the same.
abbrev pub OneFirstLine : Type 0
OneFirstLine = (text : List ℕ) (answer other : Result BayLine Refusal) → BayAnswer text answer → BayAnswer text other → tells answer ≡ tells other

-- Any two answers to one text tell the same, whatever the memory holds after them.
abbrev pub OneVerdict : {C : Type 0} (K : Kind C) → (Amount → C) → Type 0
OneVerdict {C = C} K cost_of = (text : List ℕ) (kind : KindName) (from n : ℕ) (m m' m'' : Contents C) (answer other : Result ℕ Refusal) →
    KindAnswer K (read_as kind cost_of) text from m m' answer n → KindAnswer K (read_as kind cost_of) text from m m'' other n → tells answer ≡ tells other
