-- The lines of k formats have passed, and their codes are written.
use Rattle.std.proofs.Common.{◌≡◌, length}
use Rattle.ticket.specs.Steps.{FormatsRead}
use Rattle.registers.specs.Meaning.{most_formats}
use Rattle.ticket.proofs.formats.read_formats.Given as goal

abbrev pub invariant-loop-k : goal.invariant-loop-k
invariant-loop-k g l =
    (length l.codes ≡ most_formats) ×
    FormatsRead g.C.Cost l.text l.from l.n l.k l.initial.codes l.codes l.place
