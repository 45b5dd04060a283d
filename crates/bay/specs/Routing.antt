-- What a route call answers, and what it leaves in the legs, the table and the sheets.
use Rattle.std.specs.Prelude.{◌≡◌, ℕ, suc, ◌*◌, Bool, ◌⊎◌, List, [], ◌∷◌, length, Some, None, Ok, Err, Result, slice_index_or}
use Rattle.costs.specs.declared.Cost.{Ghosts as Kind}
use Rattle.registers.specs.Fault.{first_cause}
use Rattle.registers.specs.Meaning.{standing}
use Rattle.registers.specs.declared.fault.Code.{Code}
use Rattle.walks.specs.Walk.{Gains}
use Rattle.bay.specs.Buffers.{Buffers, Wrote}
use Rattle.bay.specs.Faults.{refused}
use Rattle.bay.specs.Leg.{noted}
use Rattle.bay.specs.Leg.{opened}
use Rattle.bay.specs.Plain.{Plain, room_causes}
use Rattle.bay.specs.Routes.{LoopIn, LeastChains, note_of}
use Rattle.bay.specs.Sheet.{row_at, row_bytes}
use Rattle.bay.specs.declared.fault.BayFault.{BayFault}
use Rattle.bay.specs.declared.fault.BayFault.TheVariants.{Loop}
use Rattle.bay.specs.declared.legs.Leg.{Leg}

-- each leg with the note that goes with its row, from leg k on
abbrev pub with_notes : ℕ → (ℕ → List ℕ) → List Leg → List Leg
with_notes k row [] = []
with_notes k row (leg ∷ legs) = noted (note_of (row k)) leg ∷ with_notes (suc k) row legs

module _ {C : Type 0} {K : Kind C} (p : Plain K) where
  -- why a route is refused before it looks at a card
  abbrev pub route_causes : Buffers C → List (Bool × Code)
  route_causes m = room_causes (length p.legs) p.register.size (length m.table) (length m.costs) (length m.chains)

  -- the rows and costs of all legs, as the sheets hold them
  abbrev pub LeastChainsIn : Buffers C → Type 0
  LeastChainsIn m = (d : C) → LeastChains K.algebra (standing p.register) p.legs (row_at m.chains) (λ k. K.value (slice_index_or m.costs k d))

  module _ (legs legs' : List Leg) (before after : Buffers C) (answer : Result ℕ BayFault) where
    -- refused before a card was looked at: nothing has changed
    pub record TurnedAway : Type 0 where
      pub cause : Code
      pub holds : first_cause (route_causes before) ≡ Some cause
      pub answers : refused answer ≡ Some cause
      pub notes : legs' ≡ legs
      pub same : after ≡ before

    -- refused for a loop, which row 0 then holds; every note is open, and all else but the n × n cells is as found
    pub record FoundLoop : Type 0 where
      pub no_cause : first_cause (route_causes before) ≡ None
      pub answers : answer ≡ Err Loop
      pub loop : LoopIn K.algebra (standing p.register) (row_at after.chains 0)
      pub notes : legs' ≡ opened legs
      pub wrote : Wrote (p.register.size * p.register.size) 0 row_bytes before after

    -- granted: no closed walk undercuts the unit, each leg has its row, cost and note, and all beyond these is as found
    pub record Granted : Type 0 where
      pub no_cause : first_cause (route_causes before) ≡ None
      pub answers : answer ≡ Ok (length p.legs)
      pub no_loop : Gains K.algebra (standing p.register) → ⊥
      pub routed : LeastChainsIn after
      pub notes : legs' ≡ with_notes 0 (row_at after.chains) legs
      pub wrote : Wrote (p.register.size * p.register.size) (length p.legs) (row_bytes * length p.legs) before after

    -- a route call is turned away, finds a loop or is granted
    abbrev pub RouteAnswer : Type 0
    RouteAnswer = TurnedAway ⊎ (FoundLoop ⊎ Granted)
