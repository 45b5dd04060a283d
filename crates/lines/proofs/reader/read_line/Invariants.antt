-- At each place the reader knows what may come after the bytes so far, and it is not at the end of a line.
use Rattle.std.proofs.Common.{◌≡◌}
use Rattle.lines.specs.Grammar.{part}
use Rattle.lines.specs.Rests.{line_rest, to_come}
use Rattle.lines.specs.declared.reader.State.TheVariants.{Over}
use Rattle.lines.proofs.Runs.{run}
use Rattle.lines.proofs.reader.read_line.Given as goal

abbrev pub invariant-loop-place : goal.invariant-loop-place
invariant-loop-place l = (to_come l.reader ≡ run (line_rest l.fn.stage) (part l.text l.from l.place)) × (l.reader.state ≡ Over → ⊥)
