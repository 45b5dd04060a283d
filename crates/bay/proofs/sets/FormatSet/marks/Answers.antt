-- Bit after bit, byte after byte.
use Rattle.std.proofs.Common.{◌+◌, ◌*◌, eqb, false, inl, inr, refl, ap, ◌∙◌, arith}
use Rattle.std.proofs.lemmas.Bool.{cases_eq}
use Rattle.std.proofs.lemmas.List.{length-set, get_or-set_same, get_or-set_other}
use Rattle.bay.proofs.sets.FormatSet.marks.Goals as goal

pub loop-place-init : goal.loop-place-init
loop-place-init c = (refl, λ x l. absurd (omega arith))

pub loop-bit-init : goal.loop-bit-init
loop-bit-init c = (c.loop-place.invariant.0, λ x l. c.loop-place.invariant.1 x (omega arith))

pub loop-bit-preserved : goal.loop-bit-preserved
loop-bit-preserved c =
    let (long, known) = c.loop-bit.invariant in
    let at = 8 * c.loop-place.place + c.loop-bit.bit in
    let r = c.has_bit.result in (
      length-set c.loop-bit.marks at r ∙ long,
      λ x l. elim (cases_eq x at) [
        | inl e ↦ rw e
            (get_or-set_same c.loop-bit.marks at r false (omega (arith, long, c.loop-place-test.true, c.loop-bit-test.true)) ∙
            c.has_bit.ensures ∙ ap (λ b. eqb b 1) (c.byte-byte.ensures c.loop-bit.bit c.loop-bit-test.true))
        | inr ne ↦ get_or-set_other c.loop-bit.marks at x r false ne ∙ known x (omega (arith, l, ne))
      ],
    )

pub loop-place-preserved : goal.loop-place-preserved
loop-place-preserved c = (c.loop-bit.invariant.0, λ x l. c.loop-bit.invariant.1 x (omega (arith, l, c.loop-bit-test.false)))

pub returns : goal.returns
returns c = λ f l. c.loop-place.invariant.1 f (omega (arith, l, c.loop-place-test.false))
