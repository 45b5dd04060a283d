-- Numbers that pass are granted.
use Rattle.std.proofs.Common.{subst, sym}
use Rattle.tables.specs.OwnLaws.{own_passes}
use Rattle.tables.specs.Tables.{PassesCheck}
use Rattle.tables.proofs.Verdicts.{passes_granted, told_none}
use Rattle.tables.proofs.own.check_own_table.Goals as goal

pub returns-clause-passes : goal.returns-clause-passes
returns-clause-passes c room =
    let passes = subst PassesCheck (sym c.own_numbers.ensures) own_passes in
    told_none _ (passes_granted _ _ _ room c.check_table.ensures.answer passes)
