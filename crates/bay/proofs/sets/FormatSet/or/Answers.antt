use Rattle.bay.proofs.Members.{has_or}
use Rattle.bay.proofs.sets.FormatSet.or.Goals as goal

pub returns : goal.returns
returns c = λ f. has_or c.args.self.bits c.args.other.bits f
