use Rattle.std.proofs.Common.{◌≡◌, true, false, length, ◌∷◌, ℤ, pos, negsuc, nat_abs, sym, refl, ap, ◌∙◌, subst, arith, w32}
use Rattle.std.proofs.lemmas.Int.{to_z-of_z, ints}
use Rattle.std.proofs.lemmas.Bool.Decides.{nat_tests}
use Rattle.std.specs.Int.{is_negative}
use Rattle.lines.specs.Grammar.{delay_text, lines_text}
use Rattle.listing.specs.Output.{Writes}
use Rattle.listing.proofs.Writing.{writes_both, writes_is}
use Rattle.listing.proofs.output.Output.put_delay.Goals as goal
use Rattle.listing.proofs.output.Output.put_delay.Goals.{then-is_negative, else-is_negative}

below_zero : (z : ℤ) → is_negative z ≡ true → 45 ∷ lines_text (nat_abs z) ≡ delay_text z
below_zero (pos n) h = absurd (grind (arith, ints, nat_tests))
below_zero (negsuc n) h = refl

not_below : (z : ℤ) → is_negative z ≡ false → lines_text (nat_abs z) ≡ delay_text z
not_below (pos n) h = refl
not_below (negsuc n) h = absurd (grind (arith, ints, nat_tests))

pub returns-clause-written : goal.returns-clause-written
returns-clause-written c =
    let same = to_z-of_z w32 c.args.half_lines c.ranges.half_lines in
    let size = c.unsigned_abs.ensures.value ∙ ap nat_abs same in
    let below = sym (c.is_negative.ensures ∙ ap is_negative same) in
    elim c.if-is_negative.branch [
      | then-is_negative w ↦
          writes_is (ap (λ n. 45 ∷ lines_text n) size ∙ below_zero c.args.half_lines (below ∙ w.if-is_negative.true))
          (writes_both w.put.ensures (subst (λ o. Writes o c.put_lines.new.self (lines_text c.unsigned_abs.result)) w.self-is c.put_lines.ensures.written))
      | else-is_negative w ↦
          writes_is (ap lines_text size ∙ not_below c.args.half_lines (below ∙ w.if-is_negative.false))
          (subst (λ o. Writes o c.put_lines.new.self (lines_text c.unsigned_abs.result)) w.self-is c.put_lines.ensures.written)
    ]

pub returns-clause-short : goal.returns-clause-short
returns-clause-short c =
    let same = to_z-of_z w32 c.args.half_lines c.ranges.half_lines in
    let size = c.unsigned_abs.ensures.value ∙ ap nat_abs same in
    let below = sym (c.is_negative.ensures ∙ ap is_negative same) in
    elim c.if-is_negative.branch [
      | then-is_negative w ↦ omega (arith, c.put_lines.ensures.short, ap length (ap (λ n. 45 ∷ lines_text n) size ∙ below_zero c.args.half_lines (below ∙ w.if-is_negative.true)))
      | else-is_negative w ↦ omega (arith, c.put_lines.ensures.short, ap length (ap lines_text size ∙ not_below c.args.half_lines (below ∙ w.if-is_negative.false)))
    ]
