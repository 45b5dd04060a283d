-- The pairs that the two costs are join to the pair that the result is.
use Rattle.std.proofs.Common.{ap, ◌∙◌, subst₂}
use Rattle.costs.specs.Algebra.{IsJoin}
use Rattle.costs.specs.Delay.{delay}
use Rattle.costs.specs.Depth.{depth, bits}
use Rattle.costs.specs.Kinds.{boths}
use Rattle.costs.specs.Pair.{pair}
use Rattle.hurzelma.proofs.both.BothCost.join.Goals as goal

pub returns : goal.returns
returns c = λ m k near first second.
    ap (λ b. (b.delay.half_lines, bits b.depth.bits)) c.of.ensures
    ∙ subst₂ (λ x y. IsJoin (pair delay depth) (boths.value x) (boths.value y) (boths.value c.join.result)) c.pair.ensures c.pair-2.ensures c.join.ensures m k near first second
