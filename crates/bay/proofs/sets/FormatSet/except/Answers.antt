use Rattle.std.proofs.Common.{rules}
use Rattle.bay.proofs.Members.{except_is, except_above}
use Rattle.bay.proofs.sets.FormatSet.except.Goals as goal

pub returns-clause-less : goal.returns-clause-less
returns-clause-less c = λ f l. except_is c.args.self.bits c.args.other.bits f (search rules) l

pub returns-clause-inside : goal.returns-clause-inside
returns-clause-inside c = λ f l. except_above c.args.self.bits c.args.other.bits f (search rules) l
