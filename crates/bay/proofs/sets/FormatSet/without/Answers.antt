use Rattle.std.proofs.Common.{w64, eqb, ap}
use Rattle.std.proofs.lemmas.Nat.Bits.{bit_at_clear_same, bit_at_clear_other}
use Rattle.bay.proofs.Members.{clear_less}
use Rattle.bay.proofs.sets.FormatSet.without.Goals as goal

pub returns-clause-gone : goal.returns-clause-gone
returns-clause-gone c = ap (λ b. eqb b 1) (bit_at_clear_same w64 c.args.self.bits c.args.format c.requires)

pub returns-clause-others : goal.returns-clause-others
returns-clause-others c = λ f l ne. ap (λ b. eqb b 1) (bit_at_clear_other w64 c.args.self.bits c.args.format c.requires f l ne)

pub returns-clause-fewer : goal.returns-clause-fewer
returns-clause-fewer c = λ h. clear_less c.args.self.bits c.args.format c.requires h
