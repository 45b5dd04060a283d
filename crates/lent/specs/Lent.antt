-- What the registers in lent memory share: which sizes will do, how they begin, and how many cards stand.
use Rattle.std.specs.Prelude.{ℕ, zero, suc, ◌+◌, min, max, Bool, cond, not, ◌&&◌, List, [], ◌∷◌, is_some, Some, None, Option, nat_le}
use Rattle.registers.specs.Fault.{code}
use Rattle.registers.specs.declared.fault.Code.{Code}
use Rattle.registers.specs.declared.fault.Layer.TheVariants.{Register}
use Rattle.registers.specs.Meaning.{Meaning, least_formats, most_formats}

-- a register can have n formats
abbrev pub size_fits : ℕ → Bool
size_fits n = nat_le least_formats n && nat_le n most_formats

-- the size that comes nearest to n
abbrev pub nearest_size : ℕ → ℕ
nearest_size n = max least_formats (min n most_formats)

-- why the check before the making refuses, in order: the size, the memory
abbrev pub memory_causes : ℕ → Bool → List (Bool × Code)
memory_causes n fits = (not (size_fits n), code Register 16 0) ∷ (not fits, code Register 16 1) ∷ []

-- f 0 + … + f (n - 1)
abbrev pub total : ℕ → (ℕ → ℕ) → ℕ
total zero f = 0
total (suc n) f = f n + total n f

module _ {V : Type 0} where
  -- how many pairs of formats below n have a card
  abbrev pub how_many : ℕ → (ℕ → ℕ → Option V) → ℕ
  how_many n cards = total n (λ a. total n (λ b. cond (is_some (cards a b)) 1 0))

  -- a register just made for n formats: where its memory will do, no card and nothing sealed; else all sealed and no free place
  abbrev pub begun : ℕ → Bool → ℕ → Meaning V
  begun n fits free = record {
    size = nearest_size n;
    cards = λ a b. None;
    sealed = λ a b. not fits;
    free = cond fits free 0;
  }

  -- a held cost, where a card may have it; any other reads as no card
  abbrev pub readable : (V → Bool) → Option V → Option V
  readable admits None = None
  readable admits (Some x) = cond (admits x) (Some x) None
