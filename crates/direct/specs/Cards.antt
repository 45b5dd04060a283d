-- A route over the costs of all pairs: its legs are booked one after the other, and then it is as every route.
use Rattle.std.specs.Prelude.{◌≡◌, ℕ, ◌⊎◌, List, [], ◌∷◌, ◌++◌, length, Some, None, Option, Result}
use Rattle.costs.specs.declared.Cost.{Ghosts as Kind}
use Rattle.costs.specs.Kind.{admits}
use Rattle.registers.specs.Fault.{first_cause}
use Rattle.registers.specs.Meaning.{meant}
use Rattle.registers.specs.declared.fault.Code.{Code}
use Rattle.lent.specs.Grid.{grid}
use Rattle.lent.specs.List.{or_else}
use Rattle.lent.specs.Matrix.{matrix_causes}
use Rattle.bay.specs.Buffers.{Buffers}
use Rattle.bay.specs.Faults.{refused}
use Rattle.bay.specs.Plain.{Plain, book_causes, with_legs}
use Rattle.bay.specs.Routing.{RouteAnswer}
use Rattle.bay.specs.declared.fault.BayFault.{BayFault}
use Rattle.bay.specs.declared.legs.Ends.{Ends}
use Rattle.bay.specs.declared.legs.Leg.{Leg}

module _ {C : Type 0} {K : Kind C} where
  -- the plain bay with more legs at the end of its list
  abbrev pub with_more : Plain K → List Ends → Plain K
  with_more p legs = with_legs p (p.legs ++ legs)

  -- Why the booking of some legs is refused: by the first cause of the first of them that has one, the legs before it being
  -- booked.
  abbrev pub booking_cause : Plain K → List Ends → Option Code
  booking_cause p [] = None
  booking_cause p (leg ∷ legs) = or_else (first_cause (book_causes p leg.from leg.to)) (booking_cause (with_more p (leg ∷ [])) legs)

  -- legs were booked on a plain bay, all of them if none was refused
  pub record AllBooked {X : Type 0} (p p' : Plain K) (legs : List Ends) (r : Result X BayFault) : Type 0 where
    pub answers : refused r ≡ booking_cause p legs
    pub booked : booking_cause p legs ≡ None → p' ≡ with_more p legs

-- A bay p has no legs, and `first` is the first cause why a route with these is not made.
module _ {C : Type 0} {K : Kind C} (p : Plain K) (first : Option Code) (legs : List Ends) (before after : Buffers C) (r : Result ℕ BayFault) where
  -- refused before a route is made: nothing has changed
  pub record NotRouted : Type 0 where
    pub cause : Code
    pub holds : first ≡ Some cause
    pub answers : refused r ≡ Some cause
    pub same : after ≡ before

  -- The legs are booked, and the route is that of a bay with them. `booked` and `noted` are the bay's legs with their notes, before
  -- and after; they end with the call.
  pub record RoutedOver : Type 0 where
    pub no_cause : first ≡ None
    pub booked : List Leg
    pub noted : List Leg
    pub route : RouteAnswer (with_more p legs) booked noted before after r

  abbrev pub BookedRoute : Type 0
  BookedRoute = NotRouted ⊎ RoutedOver

module _ {C : Type 0} (K : Kind C) (n : ℕ) (cards : List C) (legs : List Ends) where
  -- the plain bay over the cards that are handed in, without legs
  abbrev pub bay_over : Plain K
  bay_over = record { register = meant K (grid (admits K) n cards); legs = [] }

  -- the first cause, in order: the size, the memory of the cards, a leg
  abbrev pub cards_cause : Option Code
  cards_cause = or_else (first_cause (matrix_causes n (length cards))) (booking_cause bay_over legs)

  abbrev pub CardsAnswer : Buffers C → Buffers C → Result ℕ BayFault → Type 0
  CardsAnswer = BookedRoute bay_over cards_cause legs
