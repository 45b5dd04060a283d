-- How many rows the first stage goes through, and what the call that counts them answers: in words about walks over the cards.
use Rattle.std.specs.Prelude.{◌≡◌, ℕ, ◌*◌, ◌<◌, ◌≤◌, ◌⊎◌, List, length, Contains, AllPairs, Option, Ok, Err, Result, ◌≢◌}
use Rattle.costs.specs.Algebra.{Algebra}
use Rattle.costs.specs.declared.Cost.{Ghosts as Kind}
use Rattle.registers.specs.Meaning.{Meaning, standing}
use Rattle.walks.specs.Walk.{path, Below, Walk, Gains}
use Rattle.bay.specs.Buffers.{Beyond}
use Rattle.bay.specs.declared.cells.Cell.{Cell}
use Rattle.bay.specs.declared.fault.BayFault.{BayFault}
use Rattle.bay.specs.declared.fault.BayFault.TheVariants.{TableShort, Loop}

module _ (A : Algebra) (card : ℕ → ℕ → Option A.Value) where
  -- a walk whose inner formats are all lower than h leads from s to h
  abbrev pub LeadsLow : ℕ → ℕ → Type 0
  LeadsLow h s = (ms : List ℕ) × Below h ms × Walk A card (path s ms h)

  -- the pairs of a format h and of a higher format s from which such a walk leads to h, each of them once
  pub record RowPairs (pairs : List (ℕ × ℕ)) : Type 0 where
    pub once : AllPairs (λ p q. p ≢ q) pairs
    pub each : (h s : ℕ) → Contains pairs (h, s) → (h < s) × LeadsLow h s
    pub all : (h s : ℕ) → h < s → LeadsLow h s → Contains pairs (h, s)

  -- there are so many such pairs
  abbrev pub RowsPassed : ℕ → Type 0
  RowsPassed k = (pairs : List (ℕ × ℕ)) × RowPairs pairs × (k ≡ length pairs)

module _ {C : Type 0} (K : Kind C) (m : Meaning K.algebra.Value) (before after : List (Cell C)) (answer : Result ℕ BayFault) where
  -- the table is shorter than n × n cells, and is as it was
  pub record RowsRefused : Type 0 where
    pub short : length before < m.size * m.size
    pub answers : answer ≡ Err TableShort
    pub same : after ≡ before

  -- a closed walk undercuts the unit; beyond the n × n cells the table is as it was
  pub record RowsLooped : Type 0 where
    pub room : m.size * m.size ≤ length before
    pub gains : Gains K.algebra (standing m)
    pub answers : answer ≡ Err Loop
    pub wrote : Beyond (m.size * m.size) before after

  -- no closed walk undercuts the unit, and the rows are counted; beyond the n × n cells the table is as it was
  pub record RowsCounted : Type 0 where
    pub room : m.size * m.size ≤ length before
    pub no_loop : Gains K.algebra (standing m) → ⊥
    pub count : ℕ
    pub rows : RowsPassed K.algebra (standing m) count
    pub answers : answer ≡ Ok count
    pub wrote : Beyond (m.size * m.size) before after

  -- the call is refused for the table or for a loop, or has counted the rows
  abbrev pub RowsAnswer : Type 0
  RowsAnswer = RowsRefused ⊎ (RowsLooped ⊎ RowsCounted)
