use Rattle.std.proofs.Common.{w64, eqb, ap}
use Rattle.std.proofs.lemmas.Nat.Bits.{bit_at_set_same, bit_at_set_other}
use Rattle.bay.proofs.sets.FormatSet.with.Goals as goal

pub returns-clause-there : goal.returns-clause-there
returns-clause-there c = ap (λ b. eqb b 1) (bit_at_set_same w64 c.args.self.bits c.args.format c.requires)

pub returns-clause-others : goal.returns-clause-others
returns-clause-others c = λ f ne. ap (λ b. eqb b 1) (bit_at_set_other w64 c.args.self.bits c.args.format c.requires f ne)
