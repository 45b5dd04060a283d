-- A register seen over another one: some pairs are out of use, and every card may be turned round. What lies below stays as it
-- is.
use Rattle.std.specs.Prelude.{ℕ, Bool, cond, ◌||◌, None}
use Rattle.registers.specs.Meaning.{Meaning}

-- the pair below that a pair stands for: the same, or the one turned round
abbrev pub pair_below : Bool → ℕ → ℕ → ℕ × ℕ
pair_below turned a b = (cond turned b a, cond turned a b)

-- A pair that is shut has no card and is sealed; any other has what stands below.
abbrev pub viewed : {V : Type 0} → (ℕ → ℕ → Bool) → Bool → Meaning V → Meaning V
viewed shuts turned m = record {
  size = m.size;
  cards = λ a b. cond (shuts a b) None (m.cards (pair_below turned a b).0 (pair_below turned a b).1);
  sealed = λ a b. shuts a b || m.sealed (pair_below turned a b).0 (pair_below turned a b).1;
  free = m.free;
}
