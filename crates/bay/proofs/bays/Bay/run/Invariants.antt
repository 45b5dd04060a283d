-- The calls so far were made, each with its answer and its part of the sheets.
use Rattle.bay.specs.Bays.{legs, plain}
use Rattle.std.specs.Prelude.{◌≡◌}
use Rattle.bay.specs.Runs.{AllKeepRegister}
use Rattle.bay.proofs.RunSteps.{RanTo}
use Rattle.bay.proofs.bays.Bay.run.Given as goal

abbrev pub invariant-loop-i : goal.invariant-loop-i
invariant-loop-i g l =
    (RanTo (plain l.fn.self) (legs l.fn.self) l.fn.table l.fn.costs l.fn.chains l.fn.answers l.calls l.i l.part (plain l.self) (legs l.self) l.table l.costs l.chains l.answers) ×
    (AllKeepRegister l.calls → l.self.register ≡ l.fn.self.register)
