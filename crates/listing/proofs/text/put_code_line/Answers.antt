use Rattle.std.proofs.Common.{◌≤◌, length, ap, arith}
use Rattle.registers.specs.Text.{layer_text}
use Rattle.listing.proofs.Lengths.{line_short}
use Rattle.listing.proofs.Writing.{writes_both, writes_is}
use Rattle.listing.proofs.text.put_code_line.Goals as goal

pub returns-clause-written : goal.returns-clause-written
returns-clause-written c =
    writes_both c.put.ensures
    (writes_both (writes_is c.layer_word.ensures.word c.put-2.ensures)
    (writes_both c.put-3.ensures
    (writes_both c.put_number.ensures.written
    (writes_both c.put-4.ensures
    (writes_both c.put_number-2.ensures.written
    (writes_both c.put-5.ensures
    (writes_both c.put_number-3.ensures.written
    (writes_both c.put-6.ensures c.put-7.ensures))))))))

pub returns-clause-short : goal.returns-clause-short
returns-clause-short c =
    let word : length (layer_text c.args.code.layer) ≤ 8 = omega (arith, c.layer_word.ensures.short, ap length c.layer_word.ensures.word) in
    line_short c.args.code c.args.byte word c.put_number.ensures.short c.put_number-2.ensures.short c.put_number-3.ensures.short
