-- What a trace finds in its table of least costs to a goal.
use Rattle.std.specs.Prelude.{ℕ, Bool, List, Option}
use Rattle.costs.specs.declared.Cost.{Ghosts as Kind}
use Rattle.registers.specs.Meaning.{stands}
use Rattle.registers.specs.declared.Register.{Ghosts as RegisterOf}
use Rattle.walks.specs.Levels.{upto}
use Rattle.bay.specs.Cells.{least_in, tabled}
use Rattle.bay.specs.Tracing.{SearchState, to_goal, TightIn, Scanned, Onward, Searched, Exhausted, LeadsToGoal, Covered, Traced, TickedFrom}
use Rattle.bay.specs.declared.tree.GoalTable.{GoalTable}

module _ {R C : Type 0} {H : RegisterOf R C} {K : Kind C} (p : GoalTable R C H K) where
  -- the cards that are looked at
  abbrev pub cards_of : ℕ → ℕ → Option K.algebra.Value
  cards_of = upto p.high (stands K (H.holds p.register.now))

  -- the cost that the table has from v to the goal
  abbrev pub cost_of : ℕ → Option K.algebra.Value
  cost_of v = least_in K p.n (tabled p.cells.now p.there.now) p.goal v

  -- the least cost from v to the goal
  abbrev pub rest_of : ℕ → Option K.algebra.Value
  rest_of = to_goal K.algebra p.n cards_of cost_of p.goal

  -- the card from v to w is tight on the way to the goal
  abbrev pub TightBy : ℕ → ℕ → Type 0
  TightBy = TightIn K.algebra p.n cards_of cost_of p.goal

  -- each format with a tight card from v has a mark
  abbrev pub ScannedBy : List Bool → ℕ → Type 0
  ScannedBy marks v = Scanned K.algebra p.n cards_of cost_of p.goal marks v p.n

  -- a tight card leads from v to w, which has a tick
  abbrev pub OnwardBy : List Bool → ℕ → ℕ → Type 0
  OnwardBy = Onward K.algebra p.n cards_of cost_of p.goal

  -- a search among formats without a tick: a tight card leads to each but the first, from an earlier one
  abbrev pub SearchedBy : List Bool → SearchState → Type 0
  SearchedBy = Searched K.algebra p.n cards_of cost_of p.goal

  -- each format with a tight card from one that was reached was reached too
  abbrev pub ExhaustedBy : SearchState → Type 0
  ExhaustedBy = Exhausted K.algebra p.n cards_of cost_of p.goal

  -- `next` leads to the goal from each format with a tick, and the goal has one
  abbrev pub LeadsBy : List Bool → List ℕ → Type 0
  LeadsBy = LeadsToGoal K.algebra p.n cards_of cost_of p.goal

  -- v has a tick, or the table has no cost from it to the goal
  abbrev pub CoveredBy : List Bool → ℕ → Type 0
  CoveredBy = Covered K.algebra p.n cards_of cost_of p.goal

  -- `next` leads from v to the goal along a chain of the least cost, or no walk leads there
  abbrev pub TracedBy : List ℕ → ℕ → Type 0
  TracedBy = Traced K.algebra p.n cards_of cost_of p.goal

  -- each format that `next` passes on its way from v to the goal has a tick, where a walk leads there
  abbrev pub TickedBy : List Bool → List ℕ → ℕ → Type 0
  TickedBy = TickedFrom K.algebra p.n cards_of cost_of p.goal
