use Rattle.std.proofs.Common.{◌≡◌, ℕ, ◌+◌, ◌*◌, ◌<◌, false, length, get_or}
use Rattle.registers.specs.Meaning.{most_formats}
use Rattle.bay.specs.FormatSets.{holds}
use Rattle.bay.proofs.sets.FormatSet.marks.Given as goal

abbrev pub invariant-loop-place : goal.invariant-loop-place
invariant-loop-place l = (length l.marks ≡ most_formats) × ((x : ℕ) → x < 8 * l.place → get_or l.marks x false ≡ holds l.self x)

abbrev pub invariant-loop-bit : goal.invariant-loop-bit
invariant-loop-bit l = (length l.marks ≡ most_formats) × ((x : ℕ) → x < 8 * l.place + l.bit → get_or l.marks x false ≡ holds l.self x)
