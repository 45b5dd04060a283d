-- None of the causes so far is told.
use Rattle.hurzelma.specs.declared.words.TheConstants.{CAUSES}
use Rattle.hurzelma.proofs.Told.{So}
use Rattle.hurzelma.proofs.words.words_told.Given as goal

abbrev pub invariant-loop-cause : goal.invariant-loop-cause
invariant-loop-cause l = So CAUSES l.told l.cause-index
