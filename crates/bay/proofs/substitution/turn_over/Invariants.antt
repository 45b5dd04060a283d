use Rattle.std.proofs.Common.{◌≡◌, ℕ, ◌<◌, length, get_or}
use Rattle.registers.specs.Meaning.{most_formats}
use Rattle.bay.specs.FormatSets.{holds, no_formats}
use Rattle.bay.proofs.Turned.{TurnedTo}
use Rattle.bay.proofs.substitution.turn_over.Given as goal

abbrev pub invariant-loop-s : goal.invariant-loop-s
invariant-loop-s g l = TurnedTo g.C.Cost l.n l.s l.initial.cells l.cells

abbrev pub invariant-loop-s-2 : goal.invariant-loop-s-2
invariant-loop-s-2 g l =
    (length l.turned ≡ most_formats) × ((x w : ℕ) → x < l.s → w < l.n → holds (get_or l.turned x no_formats) w ≡ holds (get_or l.there w no_formats) x)
