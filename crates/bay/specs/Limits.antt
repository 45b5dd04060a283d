-- How much a bay may hold.
use Rattle.std.specs.Prelude.{ℕ}

-- how many legs a bay may have
abbrev pub most_legs : ℕ
most_legs = 32
