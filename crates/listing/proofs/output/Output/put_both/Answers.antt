use Rattle.std.proofs.Common.{◌+◌, ◌≤◌, length, ap, arith, w32}
use Rattle.std.proofs.lemmas.Int.{to_z-of_z}
use Rattle.std.specs.Fmt.{signed_decimal}
use Rattle.lines.specs.Grammar.{delay_text}
use Rattle.listing.specs.Lengths.{most_digits}
use Rattle.listing.proofs.Lengths.{both_short}
use Rattle.listing.proofs.Writing.{writes_both, writes_is}
use Rattle.listing.proofs.output.Output.put_both.Goals as goal

pub returns-clause-written : goal.returns-clause-written
returns-clause-written c =
    let delay = writes_is (ap delay_text (to_z-of_z w32 c.args.half_lines c.ranges.half_lines)) c.put_delay.ensures.written in
    let depth = writes_is (ap signed_decimal (to_z-of_z w32 c.args.bits c.ranges.bits)) c.put_signed.ensures.written in
    writes_both c.put.ensures
    (writes_both delay
    (writes_both c.put-2.ensures
    (writes_both depth c.put-3.ensures)))

pub returns-clause-short : goal.returns-clause-short
returns-clause-short c =
    let delay : length (delay_text c.args.half_lines) ≤ most_digits + 3 = omega (arith, c.put_delay.ensures.short, ap (λ z. length (delay_text z)) (to_z-of_z w32 c.args.half_lines c.ranges.half_lines)) in
    let depth : length (signed_decimal c.args.bits) ≤ most_digits = omega (arith, c.put_signed.ensures.short, ap (λ z. length (signed_decimal z)) (to_z-of_z w32 c.args.bits c.ranges.bits)) in
    both_short c.args.half_lines c.args.bits delay depth
