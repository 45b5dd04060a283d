use Rattle.bay.proofs.Members.{byte_bit}
use Rattle.bay.proofs.sets.has_bit.Goals as goal

pub returns : goal.returns
returns c = byte_bit c.args.byte c.args.bit c.requires
