-- A call given as a value, with its answer: what it is answered, and what it leaves.
use Rattle.std.specs.Prelude.{◌≡◌, ℕ, ◌⊎◌, Bool, true, false, List, [], ◌∷◌, ◌++◌, length, Some, None, Ok, Err, Option, Result, slice_index_or}
use Rattle.costs.specs.declared.Cost.{Ghosts as Kind}
use Rattle.registers.specs.Fault.{after}
use Rattle.registers.specs.declared.fault.Code.{Code}
use Rattle.bay.specs.Buffers.{Buffers}
use Rattle.bay.specs.Faults.{bay_code}
use Rattle.bay.specs.Leg.{no_leg, open_leg}
use Rattle.bay.specs.Leg.{opened}
use Rattle.bay.specs.Legs.{struck}
use Rattle.bay.specs.Plain.{Plain, step, verdict}
use Rattle.bay.specs.Routing.{RouteAnswer, with_notes}
use Rattle.bay.specs.Sheet.{row_at}
use Rattle.bay.specs.Splits.{ForkAnswer}
use Rattle.bay.specs.declared.calls.Answer.{Answer}
use Rattle.bay.specs.declared.calls.Answer.TheVariants.{Entered, Withdrawn, Booked, Struck, Shown, Routed, Forked, Looped, Refused}
use Rattle.bay.specs.declared.calls.Call.{Call}
use Rattle.bay.specs.declared.calls.Call.TheVariants.{Enter, Withdraw, Book, Strike, Show, Route, Fork}
use Rattle.bay.specs.declared.fault.BayFault.{BayFault}
use Rattle.bay.specs.declared.fault.BayFault.TheVariants.{Loop}
use Rattle.bay.specs.declared.legs.Leg.{Leg}

-- the code of the fault that a call was refused for, if it was
abbrev pub refusal_of : Answer → Option Code
refusal_of Looped = Some (bay_code Loop)
refusal_of (Refused f) = Some (bay_code f)
refusal_of answer = None

-- the answer to a route or a fork that is refused: a loop is told as one
abbrev pub of_fault : BayFault → Answer
of_fault Loop = Looped
of_fault f = Refused f

-- the answer that tells what a route answered
abbrev pub of_route : Result ℕ BayFault → Answer
of_route (Ok n) = Routed n
of_route (Err f) = of_fault f

-- the answer that tells what a fork answered
abbrev pub of_fork : Result ℕ BayFault → Answer
of_fork (Ok m) = Forked m
of_fork (Err f) = of_fault f

-- a call that was made: its answer, and the memory that it was lent, before it and after it
pub record Made (C : Type 0) : Type 0 where
  pub call : Call C
  pub answer : Answer
  pub before : Buffers C
  pub after : Buffers C

abbrev pub made : {C : Type 0} → Call C → Answer → Buffers C → Buffers C → Made C
made call answer before after = record { call = call; answer = answer; before = before; after = after }

module _ {C : Type 0} where
  -- What a granted call is answered, by the legs with their notes. A route and a fork are never answered by these alone.
  abbrev pub AnswerIs : List Leg → Call C → Answer → Type 0
  AnswerIs legs (Enter a b x) answer = answer ≡ Entered
  AnswerIs legs (Withdraw a b) answer = answer ≡ Withdrawn
  AnswerIs legs (Book a b) answer = answer ≡ Booked (length legs)
  AnswerIs legs (Strike k) answer = answer ≡ Struck
  AnswerIs legs (Show k) answer = answer ≡ Shown (slice_index_or legs k no_leg)
  AnswerIs legs call answer = ⊥

  -- what a granted call makes of the legs with their notes, but for a route
  abbrev pub edited : List Leg → Call C → List Leg
  edited legs (Enter a b x) = opened legs
  edited legs (Withdraw a b) = opened legs
  edited legs (Book a b) = legs ++ open_leg a b ∷ []
  edited legs (Strike k) = struck k legs
  edited legs call = legs

  -- what a route's answer makes of them: the notes of its rows, or all open after a loop
  abbrev pub route_notes : Answer → Buffers C → List Leg → List Leg
  route_notes (Routed n) m legs = with_notes 0 (row_at m.chains) legs
  route_notes Looped m legs = opened legs
  route_notes answer m legs = legs

  abbrev pub legs_by : Call C → Answer → Buffers C → List Leg → List Leg
  legs_by Route answer m legs = route_notes answer m legs
  legs_by (Fork a b c) answer m legs = legs
  legs_by call answer m legs = after (refusal_of answer) legs (edited legs call)

  -- what a call that was made makes of the legs with their notes
  abbrev pub legs_step : List Leg → Made C → List Leg
  legs_step legs m = legs_by m.call m.answer m.after legs

module _ {C : Type 0} {K : Kind C} where
  -- The call is granted with its answer where no cause holds, and else refused for the first that does. This is not said of a
  -- route or a fork.
  abbrev pub Judged : Plain K → List Leg → Call C → Answer → Type 0
  Judged p legs call answer =
      (AnswerIs legs call answer × (verdict p call ≡ None)) ⊎
      ((f : BayFault) × (answer ≡ Refused f) × (verdict p call ≡ Some (bay_code f)))

  -- a fork was made, and is answered so
  pub record ForkTold (p : Plain K) (m : Made C) (input first second : ℕ) : Type 0 where
    pub result : Result ℕ BayFault
    pub tells : m.answer ≡ of_fork result
    pub found : ForkAnswer K p.register input first second m.before m.after result

  module _ (p : Plain K) (legs legs' : List Leg) (m : Made C) where
    -- a route was made, and this is its answer
    pub record RouteDone : Type 0 where
      pub result : Result ℕ BayFault
      pub tells : m.answer ≡ of_route result
      pub routed : RouteAnswer p legs legs' m.before m.after result

    -- a fork was made, and this is its answer; the legs with their notes are as they were
    pub record ForkDone (input first second : ℕ) : Type 0 where
      pub forked : ForkTold p m input first second
      pub notes : legs' ≡ legs

    -- any other call was made; the memory that it was lent is as it was
    pub record EditDone : Type 0 where
      pub judged : Judged p legs m.call m.answer
      pub notes : legs' ≡ legs_step legs m
      pub same : m.after ≡ m.before

    abbrev pub Done : Call C → Type 0
    Done Route = RouteDone
    Done (Fork a b c) = ForkDone a b c
    Done call = EditDone

  -- A call was made: the answer is the plain bay's, and the plain bay, the legs with their notes, the table and the sheets are
  -- then what the call and the answer make of them.
  pub record Called (p p' : Plain K) (legs legs' : List Leg) (m : Made C) : Type 0 where
    pub done : Done p legs legs' m m.call
    pub plain_is : p' ≡ step p m.call

-- a call that changes nothing in the register
abbrev pub keeps_register : {C : Type 0} → Call C → Bool
keeps_register (Enter a b x) = false
keeps_register (Withdraw a b) = false
keeps_register call = true
