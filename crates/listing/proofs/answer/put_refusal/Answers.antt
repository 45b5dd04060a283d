use Rattle.std.proofs.Common.{◌==◌, [], sym, ap, ◌∙◌}
use Rattle.std.proofs.lemmas.Bool.{cond-true}
use Rattle.ticket.specs.Faults.{ticket_code}
use Rattle.listing.specs.Text.{code_line, loop_text, formats_of, loop_number}
use Rattle.listing.proofs.Writing.{writes_both, writes_is}
use Rattle.listing.proofs.answer.put_refusal.Goals as goal

pub returns-then-is_loop-clause-written : goal.returns-then-is_loop-clause-written
returns-then-is_loop-clause-written c =
    let codes = c.args.codes.now in
    let code = ticket_code c.args.refusal.fault in
    writes_both (writes_is (ap (λ x. code_line x c.args.refusal.byte) c.code.ensures) c.put_code_line.ensures.written)
    (writes_is
    (ap (loop_text codes) c.row_formats.ensures.formats ∙ sym (cond-true (code.number == loop_number) (loop_text codes (formats_of c.args.chains.now 0)) [] (sym c.is_loop.ensures ∙ c.if-is_loop.true)))
    c.put_loop.ensures.written)
