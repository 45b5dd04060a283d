-- One leg: its ends and its note.
use Rattle.std.specs.Prelude.{ℕ, List, map}
use Rattle.bay.specs.declared.legs.Leg.{Leg}
use Rattle.bay.specs.declared.legs.Note.{Note}
use Rattle.bay.specs.declared.legs.Note.TheVariants.{Open}

-- what is read where there is no leg
abbrev pub no_leg : Leg
no_leg = record { from = 0; to = 0; note = Open }

-- a leg as it is booked
abbrev pub open_leg : ℕ → ℕ → Leg
open_leg a b = record { from = a; to = b; note = Open }

-- the leg with another note
abbrev pub noted : Note → Leg → Leg
noted note leg = record { from = leg.from; to = leg.to; note = note }

-- every note open
abbrev pub opened : List Leg → List Leg
opened legs = map (noted Open) legs
