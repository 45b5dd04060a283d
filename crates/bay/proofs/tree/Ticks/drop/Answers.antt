use Rattle.std.proofs.Common.{replicate, false, rules}
use Rattle.registers.specs.Meaning.{most_formats}
use Rattle.bay.specs.Tracing.{Clear}
use Rattle.bay.proofs.PivotSteps.{lent_back}
use Rattle.bay.proofs.Follow.{none_ticked}
use Rattle.bay.proofs.tree.Ticks.drop.Goals as goal

pub returns : goal.returns
returns c = lent_back Clear {x = replicate most_formats false} (none_ticked most_formats) (search rules)
