-- What the lines of a ticket say one after the other, and why a line is refused.
use Rattle.std.specs.Prelude.{◌≡◌, ℕ, ◌+◌, Bool, true, false, cond, not, ◌&&◌, ◌||◌, ◌⊎◌, List, [], ◌∷◌, ◌++◌, length, drop, Some, None, ◌==◌, nat_lt}
use Rattle.costs.specs.declared.Cost.{Ghosts as Kind}
use Rattle.costs.specs.Algebra.{Algebra}
use Rattle.costs.specs.Kind.{admits}
use Rattle.registers.specs.Fault.{code, first_cause}
use Rattle.registers.specs.Meaning.{enter_causes}
use Rattle.registers.specs.declared.fault.Code.{Code}
use Rattle.registers.specs.declared.fault.Layer.TheVariants.{Ticket, Register}
use Rattle.lent.specs.Lent.{size_fits, begun}
use Rattle.bay.specs.Plain.{Plain, book_causes, step}
use Rattle.bay.specs.declared.calls.Call.TheVariants.{Enter, Book}
use Rattle.lines.specs.Grammar.{line_text, number_begins, code_begins, IsRead, IsRefused}
use Rattle.lines.specs.declared.line.Kind.{Kind as KindName}
use Rattle.lines.specs.declared.line.Line.{Line}
use Rattle.lines.specs.declared.line.Line.TheVariants.{Bay, Format, Card, Leg, End}
use Rattle.lines.specs.declared.line.Read.{Read}
use Rattle.lines.specs.declared.line.Stage.{Stage}
use Rattle.lines.specs.declared.line.Stage.TheVariants.{Formats, Cards, Legs}
use Rattle.ticket.specs.Kinds.{ReadAs}
use Rattle.ticket.specs.Faults.{Told, told}

-- the cards of a ticket lie in so many entries of the memory that is handed in
abbrev pub ticket_entries : ℕ
ticket_entries = 512

-- the causes of a call, each told at the byte
abbrev pub each_at : ℕ → List (Bool × Code) → List (Bool × Told)
each_at byte [] = []
each_at byte (cause ∷ causes) = (cause.0, told byte cause.1) ∷ each_at byte causes

-- two codes are equal when all their bytes are
abbrev pub same_code : List ℕ → List ℕ → Bool
same_code [] [] = true
same_code [] (b ∷ ds) = false
same_code (a ∷ cs) [] = false
same_code (a ∷ cs) (b ∷ ds) = a == b && same_code cs ds

-- one of the codes is equal to this one
abbrev pub used : List (List ℕ) → List ℕ → Bool
used [] code = false
used (c ∷ cs) code = same_code c code || used cs code

-- why a bay line of a kind for n formats is refused, in order: a size that no register has, and too few entries
abbrev pub bay_causes : KindName → ℕ → ℕ → List (Bool × Told)
bay_causes kind n entries = (not (size_fits n), told (number_begins 0 (Bay kind n)) (code Ticket 3 0)) ∷ (nat_lt entries ticket_entries, told 0 (code Register 16 1)) ∷ []

-- why a format line at `from` is refused, in order: it has not the number due, and its code was used
abbrev pub format_causes : List (List ℕ) → ℕ → ℕ → List ℕ → List (Bool × Told)
format_causes codes from k fourcc =
    (not (k == length codes), told (number_begins from (Format k fourcc)) (code Ticket 3 0)) ∷ (used codes fourcc, told (code_begins from (Format k fourcc)) (code Ticket 4 0)) ∷ []

-- why an end line at `from` is refused before its route: something follows it
abbrev pub end_line_causes : ℕ → ℕ → List (Bool × Told)
end_line_causes total from = (nat_lt (from + length (line_text End)) total, told (from + length (line_text End)) (code Ticket 2 0)) ∷ []

-- What the lines so far have said: the codes of the first formats, and the plain bay that their calls have made.
pub record Said {C : Type 0} (K : Kind C) : Type 0 where
  pub codes : List (List ℕ)
  pub plain : Plain K

module _ {C : Type 0} {K : Kind C} where
  abbrev pub said : List (List ℕ) → Plain K → Said K
  said codes p = record { codes = codes; plain = p }

  -- after the bay line: no codes, and a bay of n formats without cards or legs
  abbrev pub begins : ℕ → Said K
  begins n = said [] (record { register = begun n true ticket_entries; legs = [] })

  -- what may come next: formats until each has its code, then cards as the kind has them, and no more cards once there is a leg
  abbrev pub due : ReadAs C → Said K → Stage
  due R s = cond (nat_lt (length s.codes) s.plain.register.size) Formats (cond (length s.plain.legs == 0) (Cards R.kind) Legs)

-- a line that others may follow
abbrev pub More : Line → Type 0
More (Bay kind n) = Unit {0}
More (Format k code) = Unit {0}
More (Card a b cost) = Unit {0}
More (Leg a b) = Unit {0}
More End = ⊥

-- `R` is how card lines are read
module _ {C : Type 0} (K : Kind C) (R : ReadAs C) where
  -- why a line at `from` of a text of `total` bytes is refused, once it is read; a card is entered, and a leg is booked
  abbrev pub line_causes : Said K → ℕ → ℕ → Line → List (Bool × Told)
  line_causes s total from (Bay kind n) = []
  line_causes s total from (Format k code) = format_causes s.codes from k code
  line_causes s total from (Card a b cost) = each_at from (enter_causes s.plain.register a b (admits K (R.cost_of cost)))
  line_causes s total from (Leg a b) = each_at from (book_causes s.plain a b)
  line_causes s total from End = end_line_causes total from

  -- what a line adds that is not refused
  abbrev pub adds : Said K → Line → Said K
  adds s (Bay kind n) = s
  adds s (Format k code) = said (s.codes ++ code ∷ []) s.plain
  adds s (Card a b cost) = said s.codes (step s.plain (Enter a b (R.cost_of cost)))
  adds s (Leg a b) = said s.codes (step s.plain (Book a b))
  adds s End = s

  module _ (text : List ℕ) where
    -- the line is read at `from`, and no cause holds against it
    pub record Passes (s : Said K) (from : ℕ) (read : Read) : Type 0 where
      pub is_read : IsRead (due R s) text from read
      pub no_cause : first_cause (line_causes s (length text) from read.line) ≡ None

    -- the lines stand in the text one after the other from `from` to `place`, all of them pass, and then so much is said
    abbrev pub Through : Said K → ℕ → List Read → ℕ → Said K → Type 0
    Through s from [] place s' = (from ≡ place) × (s ≡ s')
    Through s from (read ∷ reads) place s' = Passes s from read × More read.line × Through (adds s read.line) read.end reads place s'

    -- the line at `from` is refused: no allowed line stands there, or a cause holds against the one that does
    abbrev pub LineRefused : Said K → ℕ → Told → Type 0
    LineRefused s from t =
        (IsRefused (due R s) text from t.byte × (t.code ≡ code Ticket 2 0)) ⊎
        ((read : Read) × IsRead (due R s) text from read × (first_cause (line_causes s (length text) from read.line) ≡ Some t))

    -- some lines pass, and the next is refused
    pub record Stops (s : Said K) (from : ℕ) (t : Told) : Type 0 where
      pub lines : List Read
      pub place : ℕ
      pub then : Said K
      pub through : Through s from lines place then
      pub refused : LineRefused then place t

    -- some lines pass, and then the end line, with nothing after it
    pub record Completes (s : Said K) (from place : ℕ) (then : Said K) : Type 0 where
      pub lines : List Read
      pub through : Through s from lines place then
      pub last : Read
      pub passes : Passes then place last
      pub is_end : last.line ≡ End
