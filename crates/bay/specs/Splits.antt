-- The cheapest split of one input over two outputs: what a fork is to find, in words about walks over the standing cards, what it is
-- answered, and what it leaves in the table and the sheets.
use Rattle.std.specs.Prelude.{◌≡◌, ℕ, ◌*◌, ◌<◌, Bool, not, ◌⊎◌, List, [], ◌∷◌, ◌++◌, length, Some, None, Ok, Err, Option, Result, nat_lt, slice_index_or}
use Rattle.costs.specs.declared.Cost.{Ghosts as Kind}
use Rattle.costs.specs.Algebra.{Algebra}
use Rattle.registers.specs.Fault.{code, first_cause}
use Rattle.registers.specs.Meaning.{Meaning, end_causes, standing}
use Rattle.registers.specs.declared.fault.Code.{Code}
use Rattle.registers.specs.declared.fault.Layer.TheVariants.{Bay}
use Rattle.walks.specs.Walk.{FromTo, Walk, WalkCosts, Gains}
use Rattle.bay.specs.Buffers.{Buffers, Wrote}
use Rattle.bay.specs.Faults.{refused}
use Rattle.bay.specs.Plain.{from_to}
use Rattle.bay.specs.Routes.{HasLeastChain, LoopIn}
use Rattle.bay.specs.Sheet.{row_at, row_bytes}
use Rattle.bay.specs.declared.fault.BayFault.{BayFault}
use Rattle.bay.specs.declared.fault.BayFault.TheVariants.{Loop, NoSplit}

-- a split has so many rows: the chain that leads to it, and the one that leads on to each output
abbrev pub split_rows : ℕ
split_rows = 3

-- no walk leads from s to t
abbrev pub NoWalk : (A : Algebra) → (ℕ → ℕ → Option A.Value) → ℕ → ℕ → Type 0
NoWalk A card s t = (fs : List ℕ) → FromTo s t fs → Walk A card fs → ⊥

module _ (A : Algebra) (card : ℕ → ℕ → Option A.Value) (input first second : ℕ) where
  -- three walks, from the input to m and from m to each output, cost x together, so that what the outputs share counts once
  abbrev pub SplitCosts : ℕ → A.Value → Type 0
  SplitCosts m x =
      (a : A.Value) × (b : A.Value) × (c : A.Value) × WalkCosts A card input m a × WalkCosts A card m first b × WalkCosts A card m second c ×
      (x ≡ A.join (A.join a b) c)

  -- x is a total at m, no total at any format undercuts it, and it undercuts each total at a lower format
  pub record Cheapest (m : ℕ) (x : A.Value) : Type 0 where
    pub total : SplitCosts m x
    pub least : (k : ℕ) (y : A.Value) → SplitCosts k y → A.Under y x → ⊥
    pub lowest : (k : ℕ) (y : A.Value) → k < m → SplitCosts k y → A.Under x y

  -- a chain of least cost from the input to m, one from m to each output, and the combination of what they cost, which is cheapest
  pub record HasCheapestSplit (m : ℕ) (row : ℕ → List ℕ) (paid : A.Value) : Type 0 where
    pub stem : A.Value
    pub branch : A.Value
    pub other : A.Value
    pub to_split : HasLeastChain A card (from_to input m) (row 0) stem
    pub to_first : HasLeastChain A card (from_to m first) (row 1) branch
    pub to_second : HasLeastChain A card (from_to m second) (row 2) other
    pub total : paid ≡ A.join (A.join stem branch) other
    pub cheapest : Cheapest m paid

-- Why a fork is refused before it looks at a card, in order: an input or an output that is no format of n; a table of fewer than n × n
-- cells; no cost entry; fewer bytes than the rows of a split have.
abbrev pub split_causes : ℕ → ℕ → ℕ → ℕ → ℕ → ℕ → ℕ → List (Bool × Code)
split_causes n input first second cells entries bytes =
    end_causes Bay n input first ++ (not (nat_lt second n), code Bay 11 2) ∷ (nat_lt cells (n * n), code Bay 15 0) ∷
    (nat_lt entries 1, code Bay 15 1) ∷ (nat_lt bytes (row_bytes * split_rows), code Bay 15 2) ∷ []

-- A fork over the cards of a register: the legs of a bay do not matter to it.
module _ {C : Type 0} (K : Kind C) (m : Meaning K.algebra.Value) (input first second : ℕ) where
  abbrev pub fork_causes : Buffers C → List (Bool × Code)
  fork_causes lent = split_causes m.size input first second (length lent.table) (length lent.costs) (length lent.chains)

  module _ (before after : Buffers C) (answer : Result ℕ BayFault) where
    -- refused before a card was looked at: nothing has changed
    pub record ForkTurnedAway : Type 0 where
      pub cause : Code
      pub holds : first_cause (fork_causes before) ≡ Some cause
      pub answers : refused answer ≡ Some cause
      pub same : after ≡ before

    -- refused for a loop, which row 0 then holds; all else but the n × n cells is as found
    pub record ForkLooped : Type 0 where
      pub no_cause : first_cause (fork_causes before) ≡ None
      pub answers : answer ≡ Err Loop
      pub loop : LoopIn K.algebra (standing m) (row_at after.chains 0)
      pub wrote : Wrote (m.size * m.size) 0 row_bytes before after

    -- refused, since no walk leads from the input to some output; all but the n × n cells is as found
    pub record ForkUnreached : Type 0 where
      pub no_cause : first_cause (fork_causes before) ≡ None
      pub answers : answer ≡ Err NoSplit
      pub no_loop : Gains K.algebra (standing m) → ⊥
      pub cut_off : NoWalk K.algebra (standing m) input first ⊎ NoWalk K.algebra (standing m) input second
      pub wrote : Wrote (m.size * m.size) 0 0 before after

    -- granted: no closed walk undercuts the unit, the first rows and the first entry have the cheapest split, and all beyond is as found
    pub record ForkGranted : Type 0 where
      pub no_cause : first_cause (fork_causes before) ≡ None
      pub split : ℕ
      pub inside : split < m.size
      pub answers : answer ≡ Ok split
      pub no_loop : Gains K.algebra (standing m) → ⊥
      pub found : (d : C) → HasCheapestSplit K.algebra (standing m) input first second split (row_at after.chains) (K.value (slice_index_or after.costs 0 d))
      pub wrote : Wrote (m.size * m.size) 1 (row_bytes * split_rows) before after

    -- a fork is turned away, finds a loop, does not reach an output or is granted
    abbrev pub ForkAnswer : Type 0
    ForkAnswer = ForkTurnedAway ⊎ (ForkLooped ⊎ (ForkUnreached ⊎ ForkGranted))
