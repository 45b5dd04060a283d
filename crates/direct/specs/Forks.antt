-- A fork without a ticket: over the costs of all pairs, or over a customer's table under a bar, where it never finds a loop.
use Rattle.std.specs.Prelude.{◌≡◌, ◌≢◌, ℕ, ◌⊎◌, List, length, ℤ, Some, None, Err, Result}
use Rattle.costs.specs.declared.Cost.{Ghosts as Kind}
use Rattle.costs.specs.declared.delay.Delay.{Delay}
use Rattle.costs.specs.Kind.{admits}
use Rattle.costs.specs.Kinds.{delays}
use Rattle.registers.specs.Bar.{barred}
use Rattle.registers.specs.Fault.{first_cause}
use Rattle.registers.specs.Meaning.{Meaning, meant}
use Rattle.registers.specs.declared.fault.Code.{Code}
use Rattle.lent.specs.Grid.{grid}
use Rattle.lent.specs.Matrix.{matrix_causes}
use Rattle.bay.specs.Buffers.{Buffers}
use Rattle.bay.specs.Faults.{refused}
use Rattle.bay.specs.Splits.{ForkAnswer}
use Rattle.bay.specs.declared.fault.BayFault.{BayFault}
use Rattle.bay.specs.declared.fault.BayFault.TheVariants.{Loop}
use Rattle.tables.specs.Tables.{MadeOf}

module _ {C : Type 0} (K : Kind C) (n : ℕ) (cards : List C) (input first second : ℕ) (before after : Buffers C) (r : Result ℕ BayFault) where
  -- the size or the memory of the cards will not do: nothing has changed
  pub record CardsUnfit : Type 0 where
    pub cause : Code
    pub holds : first_cause (matrix_causes n (length cards)) ≡ Some cause
    pub answers : refused r ≡ Some cause
    pub same : after ≡ before

  -- they will do: it is a fork over these cards
  pub record ForkedOver : Type 0 where
    pub fit : first_cause (matrix_causes n (length cards)) ≡ None
    pub fork : ForkAnswer K (meant K (grid (admits K) n cards)) input first second before after r

  abbrev pub CardsForked : Type 0
  CardsForked = CardsUnfit ⊎ ForkedOver

-- the table is the register made of the place
pub record TableForked (place : List ℤ) (bits input first second : ℕ) (before after : Buffers Delay) (r : Result ℕ BayFault) : Type 0 where
  pub table : Meaning Delay
  pub made : MadeOf place table
  pub fork : ForkAnswer delays (meant delays (barred bits table)) input first second before after r
  pub no_loop : r ≢ Err Loop
