-- The kind delay: half lines of video with a sign, as a whole number of any size.
use Rattle.std.specs.Prelude.{ℕ, ◌*◌, ◌≤◌, ℤ, pos, ◌+ℤ◌, ◌<ℤ◌, nat_le, unsigned_abs}
use Rattle.costs.specs.Algebra.{Algebra}

-- A card's delay is at most so many half lines from 0.
abbrev pub most_half_lines : ℕ
most_half_lines = 2_000_000

abbrev pub delay : Algebra
delay = record {
  Value = ℤ;
  unit = pos 0;
  join = ◌+ℤ◌;
  Under = ◌<ℤ◌;
  Within = λ m z. unsigned_abs z ≤ m * most_half_lines;
  admits = λ z. nat_le (unsigned_abs z) most_half_lines;
}
