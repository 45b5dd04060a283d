use Rattle.std.proofs.Common.{◌≡◌, eqb, ltb, sym, ap, ◌∙◌, subst, arith}
use Rattle.std.specs.Int.{bit_at}
use Rattle.bay.proofs.Members.{has_ones, low_ones}
use Rattle.bay.proofs.sets.FormatSet.below.Goals as goal

pub returns-then-count-lt64 : goal.returns-then-count-lt64
returns-then-count-lt64 c = λ f. ap (λ b. eqb (bit_at b f) 1) (low_ones c.args.count c.if-count-lt64.true) ∙ has_ones c.args.count f

pub returns-else-count-lt64 : goal.returns-else-count-lt64
returns-else-count-lt64 c =
    let e : c.args.count ≡ 64 = omega (arith, c.requires, c.if-count-lt64.false) in
    λ f. subst (λ k. eqb (bit_at 18446744073709551615 f) 1 ≡ ltb f k) (sym e) (has_ones 64 f)
