use Rattle.std.proofs.Common.{w64, eqb, ap, arith, rules}
use Rattle.std.proofs.lemmas.Nat.Bits.{bit_at-trailing_zeros}
use Rattle.bay.proofs.sets.FormatSet.first.Goals as goal

pub returns-else-self-eq0-clause-some : goal.returns-else-self-eq0-clause-some
returns-else-self-eq0-clause-some c =
    let is = bit_at-trailing_zeros w64 c.args.self.bits (omega (arith, c.if-self-eq0.false)) (search rules) in
    (is.0, ap (λ b. eqb b 1) is.1)
