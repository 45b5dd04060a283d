-- Which formats a set has.
use Rattle.std.specs.Prelude.{◌≡◌, ℕ, ◌<◌, Bool, List, Option, is_some, ◌==◌, slice_index_or}
use Rattle.std.specs.Int.{bit_at}
use Rattle.bay.specs.declared.sets.FormatSet.{FormatSet}

abbrev pub holds : FormatSet → ℕ → Bool
holds s f = bit_at s.bits f == 1

abbrev pub no_formats : FormatSet
no_formats = record { bits = 0 }

-- of the formats below n, the set of each has just those that a card leads to
abbrev pub Standing : {V : Type 0} → ℕ → (ℕ → ℕ → Option V) → List FormatSet → Type 0
Standing n card sets = (s t : ℕ) → s < n → t < n → holds (slice_index_or sets s no_formats) t ≡ is_some (card s t)
