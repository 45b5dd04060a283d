use Rattle.std.proofs.Common.{arith}
use Rattle.std.proofs.lemmas.Result.{err_from_is_err_and}
use Rattle.ticket.proofs.Passing.{formats_more, formats_stop}
use Rattle.ticket.proofs.formats.read_formats.Goals as goal

pub loop-k-preserved : goal.loop-k-preserved
loop-k-preserved g c = (
  c.read_format.array_long,
  formats_more g.C.Cost c.args.text.now c.args.from c.args.n c.loop-k.k c.args.codes.now c.loop-k.codes c.loop-k.place
      c.loop-k.invariant.1 (omega (arith, c.loop-k.invariant.0)) c.loop-k-test.true c.read_format.new.codes c.in_ok-place.place c.in_ok-place.ensures,
)

pub returns-in_err-place-clause-answer : goal.returns-in_err-place-clause-answer
returns-in_err-place-clause-answer g c =
    let p = err_from_is_err_and c.from_residual.result c.from_residual.ensures.1 in
    rw (p.1, p.2)
    (formats_stop g.C.Cost c.args.text.now c.args.from c.args.n c.loop-k.k c.args.codes.now c.loop-k.codes c.loop-k.place
    c.loop-k.invariant.1 (omega (arith, c.loop-k.invariant.0)) c.loop-k-test.true c.read_format.new.codes _ c.in_err-place.ensures)
