-- The law over whole runs: what every call is answered, by the plain bay as that call finds it.
use Rattle.std.specs.Prelude.{◌≡◌, ℕ, ◌+◌, ◌*◌, ◌<◌, Bool, true, false, cond, ◌⊎◌, List, [], ◌∷◌, ◌++◌, map, length, take, drop, count_by, All, Some, None, slice_index_or, nat_lt}
use Rattle.std.specs.List.{flat_map}
use Rattle.costs.specs.declared.Cost.{Ghosts as Kind}
use Rattle.registers.specs.Fault.{code, first_cause}
use Rattle.registers.specs.Meaning.{standing}
use Rattle.registers.specs.declared.fault.Code.{Code}
use Rattle.registers.specs.declared.fault.Layer.TheVariants.{Bay}
use Rattle.walks.specs.Walk.{Gains}
use Rattle.bay.specs.Buffers.{Buffers, Wrote, buffers, in_front}
use Rattle.bay.specs.Calls.{Made, Judged, Called, ForkTold, keeps_register, made, legs_step}
use Rattle.bay.specs.Faults.{bay_code}
use Rattle.bay.specs.Limits.{most_legs}
use Rattle.bay.specs.Plain.{Plain, step}
use Rattle.bay.specs.Routes.{LoopIn}
use Rattle.bay.specs.Routing.{LeastChainsIn, route_causes}
use Rattle.bay.specs.Sheet.{row_at, row_bytes}
use Rattle.bay.specs.Splits.{split_rows}
use Rattle.bay.specs.declared.calls.Answer.{Answer}
use Rattle.bay.specs.declared.calls.Answer.TheVariants.{Entered, Routed, Forked, Looped, Refused}
use Rattle.bay.specs.declared.calls.Call.{Call}
use Rattle.bay.specs.declared.calls.Call.TheVariants.{Route, Fork}
use Rattle.bay.specs.declared.cells.Cell.{Cell}
use Rattle.bay.specs.declared.fault.BayFault.{BayFault}
use Rattle.bay.specs.declared.fault.BayFault.TheVariants.{NoSplit}
use Rattle.bay.specs.declared.legs.Leg.{Leg}

module _ {C : Type 0} where
  abbrev pub call_of : Made C → Call C
  call_of m = m.call

  abbrev pub answer_of : Made C → Answer
  answer_of m = m.answer

  -- what is read where no call was made
  abbrev pub no_call : Made C
  no_call = made Route Entered (buffers [] [] []) (buffers [] [] [])

  -- the legs with their notes after these calls
  abbrev pub legs_after : List Leg → List (Made C) → List Leg
  legs_after legs [] = legs
  legs_after legs (m ∷ ms) = legs_after (legs_step legs m) ms

module _ {C : Type 0} {K : Kind C} where
  -- What a route is answered and leaves in its sheets, where no cause holds before a card is looked at: a loop that undercuts
  -- the unit, or else, where no closed walk does, for each leg its chain of least cost.
  abbrev pub RouteRight : Plain K → Made C → Type 0
  RouteRight p m =
      ((m.answer ≡ Looped) × LoopIn K.algebra (standing p.register) (row_at m.after.chains 0)) ⊎
      ((m.answer ≡ Routed (length p.legs)) × (Gains K.algebra (standing p.register) → ⊥) × LeastChainsIn p m.after)

  abbrev pub RightFor : Call C → Plain K → List Leg → Made C → Type 0
  RightFor Route p legs m =
      ((f : BayFault) × (m.answer ≡ Refused f) × (first_cause (route_causes p m.before) ≡ Some (bay_code f))) ⊎
      ((first_cause (route_causes p m.before) ≡ None) × RouteRight p m)
  RightFor (Fork a b c) p legs m = ForkTold p m a b c
  RightFor call p legs m = Judged p legs call m.answer

  -- the answer to a call is that of the plain bay p, whose legs have these notes
  abbrev pub Right : Plain K → List Leg → Made C → Type 0
  Right p legs m = RightFor m.call p legs m

  -- the plain bay after these calls
  abbrev pub plain_after : Plain K → List (Call C) → Plain K
  plain_after p [] = p
  plain_after p (call ∷ calls) = plain_after (step p call) calls

  -- The law: at every place, the answer is the plain bay's, as the calls before that place leave it. So each route finds a loop
  -- exactly where a closed walk undercuts the unit, and else least chains that agree, and each fork the cheapest split.
  abbrev pub Law : Plain K → List Leg → List (Made C) → Type 0
  Law p legs ms = (i : ℕ) → i < length ms →
      Right (plain_after p (take i (map call_of ms))) (legs_after legs (take i ms)) (slice_index_or ms i no_call)

  -- the calls were made one after the other, each as its contract says, on a bay that began as p with these legs
  abbrev pub OneAfterOther : Plain K → List Leg → List (Made C) → Type 0
  OneAfterOther p legs [] = Unit {0}
  OneAfterOther p legs (m ∷ ms) = (p' : Plain K) × (legs' : List Leg) × Called p p' legs legs' m × OneAfterOther p' legs' ms

-- Whatever calls are made, on whatever bay, and with whatever tables and sheets: the law holds of them.
abbrev pub OneByOne : {C : Type 0} (K : Kind C) → Type 0
OneByOne {C = C} K = (p : Plain K) (legs : List Leg) (ms : List (Made C)) → OneAfterOther p legs ms → Law p legs ms

-- a part has room for all the legs that there may be
abbrev pub part_bytes : ℕ
part_bytes = row_bytes * most_legs

-- the same from some place on
abbrev pub put_at : {X : Type 0} → ℕ → List X → List X → List X
put_at start new old = take start old ++ (new ++ drop (start + length new) old)

-- a list of calls, each of which writes in sheets of its own: parts of those that are lent, one after the other
module _ {C : Type 0} where
  -- the call works in a part of the sheets
  abbrev pub takes_part : Call C → Bool
  takes_part Route = true
  takes_part (Fork a b c) = true
  takes_part call = false

  -- how many parts a list of calls takes
  abbrev pub parts : List (Call C) → ℕ
  parts calls = count_by takes_part calls

  -- why a list of calls is refused before its first call, in order: too few cost entries, bytes of the chain sheet, or answers
  abbrev pub run_causes : List (Call C) → ℕ → ℕ → ℕ → List (Bool × Code)
  run_causes calls entries bytes answers =
      (nat_lt entries (most_legs * parts calls), code Bay 15 1) ∷ (nat_lt bytes (part_bytes * parts calls), code Bay 15 2) ∷
      (nat_lt answers (length calls), code Bay 15 3) ∷ []

  -- a call that works in a part of the sheets is lent a whole one
  abbrev pub WholePart : Call C → Buffers C → Type 0
  WholePart call m = takes_part call ≡ true → (length m.costs ≡ most_legs) × (length m.chains ≡ part_bytes)

  abbrev pub InWholePart : Made C → Type 0
  InWholePart m = WholePart m.call m.before

  -- none of the calls changes anything in the register
  abbrev pub AllKeepRegister : List (Call C) → Type 0
  AllKeepRegister calls = All (λ call. keeps_register call ≡ true) calls

  -- the part of a sheet that a call works in, if it does
  abbrev pub own : {X : Type 0} → Call C → List X → List X
  own call sheet = cond (takes_part call) sheet []

  -- the parts of a list of calls one after the other, each as its call found it, or left it
  abbrev pub costs_found : List (Made C) → List C
  costs_found ms = flat_map (λ m. own m.call m.before.costs) ms

  abbrev pub costs_left : List (Made C) → List C
  costs_left ms = flat_map (λ m. own m.call m.after.costs) ms

  abbrev pub chains_found : List (Made C) → List ℕ
  chains_found ms = flat_map (λ m. own m.call m.before.chains) ms

  abbrev pub chains_left : List (Made C) → List ℕ
  chains_left ms = flat_map (λ m. own m.call m.after.chains) ms

  -- the table goes from call to call
  abbrev pub PassesOn : List (Cell C) → List (Made C) → List (Cell C) → Type 0
  PassesOn table [] table' = table' ≡ table
  PassesOn table (m ∷ ms) table' = (m.before.table ≡ table) × PassesOn m.after.table ms table'

  -- what an answer leaves: only the n × n cells, and a route's or a fork's costs and rows or the row of a loop, are written
  abbrev pub LeftBy : Answer → ℕ → Buffers C → Buffers C → Type 0
  LeftBy (Routed legs) n before after = Wrote (n * n) legs (row_bytes * legs) before after
  LeftBy (Forked m) n before after = Wrote (n * n) 1 (row_bytes * split_rows) before after
  LeftBy (Refused NoSplit) n before after = Wrote (n * n) 0 0 before after
  LeftBy Looped n before after = Wrote (n * n) 0 row_bytes before after
  LeftBy answer n before after = after ≡ before

  abbrev pub Leaves : ℕ → Made C → Type 0
  Leaves n m = LeftBy m.answer n m.before m.after

-- A list of calls was made: the law holds of them, and this is what they leave.
pub record Ran {C : Type 0} {K : Kind C} (p p' : Plain K) (legs legs' : List Leg) (calls : List (Call C)) (answers answers' : List Answer) (before after : Buffers C) : Type 0 where
  pub made : List (Made C)
  pub calls_are : map call_of made ≡ calls
  pub law : Law p legs made
  pub plain_is : p' ≡ plain_after p calls
  pub legs_are : legs' ≡ legs_after legs made
  pub answers_are : answers' ≡ in_front (map answer_of made) answers
  pub whole : All InWholePart made
  pub leaves : All (Leaves p.register.size) made
  pub table : PassesOn before.table made after.table
  pub costs_were : before.costs ≡ in_front (costs_found made) before.costs
  pub costs_are : after.costs ≡ in_front (costs_left made) before.costs
  pub chains_were : before.chains ≡ in_front (chains_found made) before.chains
  pub chains_are : after.chains ≡ in_front (chains_left made) before.chains

-- One call of a list: it is made in its part of the sheets, and what lies beside that part is as it was.
pub record InPart {C : Type 0} {K : Kind C} (p p' : Plain K) (legs legs' : List Leg) (part : ℕ) (call : Call C) (answer : Answer) (before after : Buffers C) : Type 0 where
  pub made : Made C
  pub call_is : made.call ≡ call
  pub answer_is : made.answer ≡ answer
  pub called : Called p p' legs legs' made
  pub table_was : made.before.table ≡ before.table
  pub table_is : after.table ≡ made.after.table
  pub costs_were : own call made.before.costs ≡ own call (take most_legs (drop (most_legs * part) before.costs))
  pub costs_are : after.costs ≡ put_at (most_legs * part) (own call made.after.costs) before.costs
  pub costs_long : length (own call made.after.costs) ≡ length (own call made.before.costs)
  pub chains_were : own call made.before.chains ≡ own call (take part_bytes (drop (part_bytes * part) before.chains))
  pub chains_are : after.chains ≡ put_at (part_bytes * part) (own call made.after.chains) before.chains
  pub chains_long : length (own call made.after.chains) ≡ length (own call made.before.chains)
