-- A route over a customer's table under a bar: its legs are booked one after the other, and then it is as every route, but that
-- it never finds a loop.
use Rattle.std.specs.Prelude.{◌≢◌, ℕ, List, [], ℤ, Err, Result}
use Rattle.costs.specs.Kinds.{delays}
use Rattle.costs.specs.declared.delay.Delay.{Delay}
use Rattle.registers.specs.Bar.{barred}
use Rattle.registers.specs.Meaning.{Meaning, meant}
use Rattle.bay.specs.Buffers.{Buffers}
use Rattle.bay.specs.Plain.{Plain}
use Rattle.bay.specs.declared.fault.BayFault.{BayFault}
use Rattle.bay.specs.declared.fault.BayFault.TheVariants.{Loop}
use Rattle.bay.specs.declared.legs.Ends.{Ends}
use Rattle.tables.specs.Tables.{MadeOf}
use Rattle.direct.specs.Cards.{BookedRoute, booking_cause}

-- the plain bay over a table, under a bar and without legs
abbrev pub bay_barred : ℕ → Meaning Delay → Plain delays
bay_barred bits table = record { register = meant delays (barred bits table); legs = [] }

-- the table is the register made of the place
pub record TableAnswer (place : List ℤ) (bits : ℕ) (legs : List Ends) (before after : Buffers Delay) (r : Result ℕ BayFault) : Type 0 where
  pub table : Meaning Delay
  pub made : MadeOf place table
  pub routed : BookedRoute (bay_barred bits table) (booking_cause (bay_barred bits table) legs) legs before after r
  pub no_loop : r ≢ Err Loop
