use Rattle.bay.proofs.Members.{has_and}
use Rattle.bay.proofs.sets.FormatSet.and.Goals as goal

pub returns : goal.returns
returns c = λ f. has_and c.args.self.bits c.args.other.bits f
