-- A table with the least costs between all formats of a register.
use Rattle.std.specs.Prelude.{ℕ, ◌<◌, ◌≤◌, Option}
use Rattle.costs.specs.declared.Cost.{Ghosts as Kind}
use Rattle.registers.specs.Meaning.{most_formats, stands}
use Rattle.registers.specs.declared.Register.{Ghosts as RegisterOf}
use Rattle.walks.specs.Levels.{upto}
use Rattle.walks.specs.Theorems.{Sound}
use Rattle.walks.specs.Walk.{Gains}
use Rattle.bay.specs.Cells.{tabled}
use Rattle.bay.specs.Eliminated.{ThirdDone}
use Rattle.bay.specs.declared.splits.LeastCosts.{LeastCosts}

module _ {R C : Type 0} {H : RegisterOf R C} {K : Kind C} (t : LeastCosts R C H K) where
  -- the cards of the register
  abbrev pub cards_between : ℕ → ℕ → Option K.algebra.Value
  cards_between = upto t.n (stands K (H.holds t.register.now))

  -- no closed walk over the cards undercuts the unit, and each cell has its least cost over all walks
  pub record Complete : Type 0 where
    pub few : t.n ≤ most_formats
    pub sound : Sound K.algebra t.n cards_between
    pub calm : Gains K.algebra cards_between → ⊥
    pub least : (goal : ℕ) → goal < t.n → ThirdDone K t.n cards_between (tabled t.cells.now t.there.now) goal
