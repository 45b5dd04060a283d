use Rattle.listing.proofs.Lengths.{loop_short}
use Rattle.listing.proofs.Writing.{writes_both}
use Rattle.listing.proofs.answer.put_loop.Goals as goal

pub returns-clause-written : goal.returns-clause-written
returns-clause-written c =
    writes_both c.put.ensures
    (writes_both c.put_codes.ensures.written
    (writes_both c.put-2.ensures c.put-3.ensures))

pub returns-clause-short : goal.returns-clause-short
returns-clause-short c = loop_short c.args.codes.now c.args.formats.now c.put_codes.ensures.short c.requires
