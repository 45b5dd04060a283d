-- The legs that a bay holds: the first `count` of its array.
use Rattle.std.specs.Prelude.{ℕ, suc, List, ◌++◌, take, drop}
use Rattle.bay.specs.declared.legs.Leg.{Leg}
use Rattle.bay.specs.declared.legs.Legs.{Legs}

-- the legs of a bay, by number
abbrev pub booked : Legs → List Leg
booked l = take l.count l.list

-- without leg k; later legs move down by one
abbrev pub struck : {X : Type 0} → ℕ → List X → List X
struck k legs = take k legs ++ drop (suc k) legs
