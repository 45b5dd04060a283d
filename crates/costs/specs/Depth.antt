-- The kind depth: bits kept in a sample, 0 to 255.
use Rattle.std.specs.Prelude.{ℕ, ◌<◌, ◌≤◌, min, ◌&&◌, nat_le}
use Rattle.std.proofs.Common.{arith}
use Rattle.costs.specs.Algebra.{Algebra}

abbrev pub deepest : ℕ
deepest = 255

-- A card keeps at most so many bits, and at least one.
abbrev pub most_bits : ℕ
most_bits = 16

pub record Bits : Type 0 where
  pub count : ℕ
  pub bound : count ≤ deepest

-- n bits, or the most that there are
abbrev pub bits : ℕ → Bits
bits n = record { count = min n deepest; bound = omega arith }

-- the smaller of two depths
abbrev pub fewer : Bits → Bits → Bits
fewer a b = record { count = min a.count b.count; bound = omega (arith, a.bound) }

abbrev pub depth : Algebra
depth = record {
  Value = Bits;
  unit = bits deepest;
  join = fewer;
  Under = λ a b. b.count < a.count;
  Within = λ m a. Unit {0};
  admits = λ a. nat_le 1 a.count && nat_le a.count most_bits;
}
