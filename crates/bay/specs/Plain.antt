-- The plain bay: what the calls and their arguments alone make of a bay. It knows the register's meaning and the booked ends.
use Rattle.std.specs.Prelude.{ℕ, ◌*◌, ◌<◌, Bool, Option, List, [], ◌∷◌, ◌++◌, length, ◌==◌, nat_le, nat_lt}
use Rattle.costs.specs.declared.Cost.{Ghosts as Kind}
use Rattle.costs.specs.Kind.{admits}
use Rattle.registers.specs.Fault.{code, first_cause, after}
use Rattle.registers.specs.Meaning.{Meaning, end_causes, enter_causes, withdraw_causes, entered, withdrawn}
use Rattle.registers.specs.declared.fault.Code.{Code}
use Rattle.registers.specs.declared.fault.Layer.TheVariants.{Bay}
use Rattle.bay.specs.Limits.{most_legs}
use Rattle.bay.specs.Legs.{struck}
use Rattle.bay.specs.Sheet.{row_bytes}
use Rattle.bay.specs.declared.legs.Ends.{Ends}
use Rattle.bay.specs.declared.legs.Leg.{Leg}
use Rattle.bay.specs.declared.calls.Call.{Call}
use Rattle.bay.specs.declared.calls.Call.TheVariants.{Enter, Withdraw, Book, Strike, Show, Route, Fork}

-- the ends of a booked leg
abbrev pub ends : Leg → Ends
ends leg = record { from = leg.from; to = leg.to }

-- both ends are formats of n
abbrev pub EndsBelow : ℕ → Ends → Type 0
EndsBelow n leg = (leg.from < n) × (leg.to < n)

-- two formats as the ends of a leg
abbrev pub from_to : ℕ → ℕ → Ends
from_to a b = record { from = a; to = b }

pub record Plain {C : Type 0} (K : Kind C) : Type 0 where
  -- what the register means
  pub register : Meaning K.algebra.Value
  -- the ends of the booked legs, by number
  pub legs : List Ends

-- Why a route is refused before it looks at a card, in order: no legs; a table of fewer than n × n cells; fewer cost entries
-- than legs; fewer bytes than the rows of the legs have.
abbrev pub room_causes : ℕ → ℕ → ℕ → ℕ → ℕ → List (Bool × Code)
room_causes legs n cells entries bytes =
    ((legs == 0), code Bay 25 0) ∷ (nat_lt cells (n * n), code Bay 15 0) ∷
    (nat_lt entries legs, code Bay 15 1) ∷ (nat_lt bytes (row_bytes * legs), code Bay 15 2) ∷ []

module _ {C : Type 0} {K : Kind C} where
  -- the plain bay with another register, or with other legs
  abbrev pub with_register : Plain K → Meaning K.algebra.Value → Plain K
  with_register p m = record { register = m; legs = p.legs }

  abbrev pub with_legs : Plain K → List Ends → Plain K
  with_legs p legs = record { register = p.register; legs = legs }

  -- why book is refused, in order: its ends, and as many legs as there may be
  abbrev pub book_causes : Plain K → ℕ → ℕ → List (Bool × Code)
  book_causes p a b = end_causes Bay p.register.size a b ++ (nat_le most_legs (length p.legs), code Bay 24 0) ∷ []

  -- why strike and show are refused: no leg has the number
  abbrev pub leg_causes : Plain K → ℕ → List (Bool × Code)
  leg_causes p k = (nat_le (length p.legs) k, code Bay 14 0) ∷ []

  -- Why a call is refused. Of a route and a fork this says nothing: their causes speak of the memory that they are lent too.
  abbrev pub call_causes : Plain K → Call C → List (Bool × Code)
  call_causes p (Enter a b x) = enter_causes p.register a b (admits K x)
  call_causes p (Withdraw a b) = withdraw_causes p.register a b
  call_causes p (Book a b) = book_causes p a b
  call_causes p (Strike k) = leg_causes p k
  call_causes p (Show k) = leg_causes p k
  call_causes p Route = []
  call_causes p (Fork a b c) = []

  -- the fault of the first cause that holds, if one does
  abbrev pub verdict : Plain K → Call C → Option Code
  verdict p call = first_cause (call_causes p call)

  -- what a granted call makes of the plain bay
  abbrev pub granted : Plain K → Call C → Plain K
  granted p (Enter a b x) = with_register p (entered p.register a b (K.value x))
  granted p (Withdraw a b) = with_register p (withdrawn p.register a b)
  granted p (Book a b) = with_legs p (p.legs ++ from_to a b ∷ [])
  granted p (Strike k) = with_legs p (struck k p.legs)
  granted p (Show k) = p
  granted p Route = p
  granted p (Fork a b c) = p

  -- What a call makes of the plain bay: a refused call, a show, a route and a fork change nothing.
  abbrev pub step : Plain K → Call C → Plain K
  step p call = after (verdict p call) p (granted p call)
