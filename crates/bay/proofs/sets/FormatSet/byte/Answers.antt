use Rattle.std.proofs.Common.{◌*◌, ◌/◌, ◌^◌, ◌∙◌, arith}
use Rattle.std.proofs.lemmas.Nat.Bits.{bit_at_and, bit_at_ones, bit_at-lt}
use Rattle.bay.proofs.Members.{bit_behind}
use Rattle.bay.proofs.sets.FormatSet.byte.Goals as goal

pub returns : goal.returns
returns c = λ k l.
    let low = c.args.self.bits / 2 ^ (8 * c.args.place) in
    bit_at_and low 255 k ∙ omega (arith, bit_at_ones 8 k l, bit_at-lt low k) ∙ bit_behind c.args.self.bits (8 * c.args.place) k
