-- What the functions that read a ticket owe to one another.
use Rattle.std.specs.Prelude.{◌≡◌, ℕ, ◌≤◌, false, ◌⊎◌, List, [], length, take, drop, Some, None, Ok, Err, Option, Result, slice_set}
use Rattle.costs.specs.declared.Cost.{Ghosts as Kind}
use Rattle.costs.specs.Algebra.{Algebra}
use Rattle.registers.specs.Fault.{code, first_cause}
use Rattle.registers.specs.declared.fault.Layer.TheVariants.{Ticket}
use Rattle.bay.specs.Limits.{most_legs}
use Rattle.bay.specs.Plain.{Plain}
use Rattle.bay.specs.declared.legs.Ends.{Ends}
use Rattle.lines.specs.Grammar.{IsRead, IsRefused}
use Rattle.lines.specs.declared.line.Line.TheVariants.{Format, End}
use Rattle.lines.specs.declared.line.Read.{Read}
use Rattle.lines.specs.declared.line.Stage.TheVariants.{Formats}
use Rattle.ticket.specs.Kinds.{ReadAs}
use Rattle.ticket.specs.Faults.{told_by}
use Rattle.bay.specs.Buffers.{in_front}
use Rattle.ticket.specs.Said.{format_causes, used, said, adds, Passes, More, Through, LineRefused, Stops, Completes}
use Rattle.ticket.specs.declared.fault.Refusal.{Refusal}
use Rattle.ticket.specs.declared.orders.Progress.{Progress}

-- the line at `from` is that of the format k, with a code that is none of the k before it, and its code is written
pub record FormatRead (text : List ℕ) (from k : ℕ) (codes codes' : List (List ℕ)) (end : ℕ) : Type 0 where
  pub read : Read
  pub fourcc : List ℕ
  pub is_read : IsRead Formats text from read
  pub line_is : read.line ≡ Format k fourcc
  pub end_is : read.end ≡ end
  pub unused : used (take k codes) fourcc ≡ false
  pub written : codes' ≡ slice_set codes k fourcc

-- the line at `from` is not, and the codes are as they were
pub record FormatRefused (text : List ℕ) (from k : ℕ) (codes codes' : List (List ℕ)) (refusal : Refusal) : Type 0 where
  pub why :
      (IsRefused Formats text from refusal.byte × ((told_by refusal).code ≡ code Ticket 2 0)) ⊎
      ((read : Read) × (j : ℕ) × (fourcc : List ℕ) × IsRead Formats text from read × (read.line ≡ Format j fourcc) × (first_cause (format_causes (take k codes) from j fourcc) ≡ Some (told_by refusal)))
  pub same : codes' ≡ codes

abbrev pub FormatAnswer : List ℕ → ℕ → ℕ → List (List ℕ) → List (List ℕ) → Result ℕ Refusal → Type 0
FormatAnswer text from k codes codes' (Ok end) = FormatRead text from k codes codes' end
FormatAnswer text from k codes codes' (Err refusal) = FormatRefused text from k codes codes' refusal

module _ {C : Type 0} (K : Kind C) (text : List ℕ) where
  -- The lines from `from` to `end` are those of the first k formats of n, and their codes are written. How card lines are read is
  -- of no account.
  pub record FormatsRead (from n k : ℕ) (codes codes' : List (List ℕ)) (end : ℕ) : Type 0 where
    pub lines : List Read
    pub through : (R : ReadAs C) (p : Plain K) → p.register.size ≡ n → Through K R text (said [] p) from lines end (said (take k codes') p)
    pub beyond : drop k codes' ≡ drop k codes

  abbrev pub FormatsAnswer : ℕ → ℕ → List (List ℕ) → List (List ℕ) → Result ℕ Refusal → Type 0
  FormatsAnswer from n codes codes' (Ok end) = FormatsRead from n n codes codes' end
  FormatsAnswer from n codes codes' (Err refusal) = (R : ReadAs C) (p : Plain K) → p.register.size ≡ n → Stops K R text (said [] p) from (told_by refusal)

module _ {C : Type 0} (K : Kind C) (R : ReadAs C) (text : List ℕ) where
  -- What holds once every format has its code, and whatever the codes are.
  abbrev pub OnceCoded : Plain K → (List (List ℕ) → Type 0) → Type 0
  OnceCoded p P = (codes : List (List ℕ)) → p.register.size ≤ length codes → P codes

  -- the card or leg of the line at `place` is taken into the plain bay p, and the ends of a leg are written
  pub record OrderTaken (place : ℕ) (p p' : Plain K) (ends ends' : List Ends) (next : Progress) : Type 0 where
    pub read : Read
    pub passes : OnceCoded p (λ codes. Passes K R text (said codes p) place read)
    pub more : More read.line
    pub adds_it : (codes : List (List ℕ)) → adds K R (said codes p) read.line ≡ said codes p'
    pub size : p'.register.size ≡ p.register.size
    pub written : (base : List Ends) → length base ≡ most_legs → ends ≡ in_front p.legs base → ends' ≡ in_front p'.legs base
    pub place_is : next.place ≡ read.end
    pub legs_are : next.legs ≡ length p'.legs

  -- the line at `place` is the end line, with nothing after it, and nothing has changed
  pub record OrdersEnd (place : ℕ) (p p' : Plain K) (ends ends' : List Ends) : Type 0 where
    pub read : Read
    pub passes : OnceCoded p (λ codes. Passes K R text (said codes p) place read)
    pub is_end : read.line ≡ End
    pub same : p' ≡ p
    pub kept : ends' ≡ ends

  abbrev pub OrderAnswer : ℕ → Plain K → Plain K → List Ends → List Ends → Result (Option Progress) Refusal → Type 0
  OrderAnswer place p p' ends ends' (Ok (Some next)) = OrderTaken place p p' ends ends' next
  OrderAnswer place p p' ends ends' (Ok None) = OrdersEnd place p p' ends ends'
  OrderAnswer place p p' ends ends' (Err refusal) = OnceCoded p (λ codes. LineRefused K R text (said codes p) place (told_by refusal))

  -- the cards and legs of the lines from `from` to where they have come are taken, and the ends of the legs are written
  pub record OrdersTaken (from : ℕ) (p p' : Plain K) (ends ends' : List Ends) (next : Progress) : Type 0 where
    pub lines : List Read
    pub through : OnceCoded p (λ codes. Through K R text (said codes p) from lines next.place (said codes p'))
    pub size : p'.register.size ≡ p.register.size
    pub written : ends' ≡ in_front p'.legs ends
    pub legs_are : next.legs ≡ length p'.legs

  -- all lines pass, and the ends of the legs are written
  pub record OrdersRead (from : ℕ) (p p' : Plain K) (ends ends' : List Ends) (place : ℕ) : Type 0 where
    pub completes : OnceCoded p (λ codes. Completes K R text (said codes p) from place (said codes p'))
    pub written : ends' ≡ in_front p'.legs ends

  abbrev pub OrdersAnswer : ℕ → Plain K → Plain K → List Ends → List Ends → Result ℕ Refusal → Type 0
  OrdersAnswer from p p' ends ends' (Ok place) = OrdersRead from p p' ends ends' place
  OrdersAnswer from p p' ends ends' (Err refusal) = OnceCoded p (λ codes. Stops K R text (said codes p) from (told_by refusal))
