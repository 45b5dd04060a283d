-- A bar: some formats of a register are taken out of use, and the register below stays as it is.
use Rattle.std.specs.Prelude.{ℕ, ◌/◌, ◌%◌, ◌^◌, Bool, false, ◌||◌, ◌==◌}
use Rattle.registers.specs.Meaning.{Meaning}
use Rattle.registers.specs.View.{viewed}

-- bit f bars the format f
abbrev pub bars : ℕ → ℕ → Bool
bars bits f = bits / 2 ^ f % 2 == 1

-- a pair touches a barred format with either end
abbrev pub touches : ℕ → ℕ → ℕ → Bool
touches bits a b = bars bits a || bars bits b

-- such a pair has no card and is sealed; everything else is as below
abbrev pub barred : {V : Type 0} → ℕ → Meaning V → Meaning V
barred bits = viewed (touches bits) false
