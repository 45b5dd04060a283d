use Rattle.listing.proofs.Lengths.{leg_short}
use Rattle.listing.proofs.Writing.{writes_both}
use Rattle.listing.proofs.text.put_leg.Goals as goal

pub returns-clause-written : goal.returns-clause-written
returns-clause-written c =
    writes_both c.put.ensures
    (writes_both c.put_number.ensures.written
    (writes_both c.put-2.ensures
    (writes_both c.put_number-2.ensures.written
    (writes_both c.put-3.ensures
    (writes_both c.put_number-3.ensures.written
    (writes_both c.put-4.ensures
    (writes_both c.put_found.ensures.written
    (writes_both c.put-5.ensures c.put-6.ensures))))))))

pub returns-clause-short : goal.returns-clause-short
returns-clause-short c =
    leg_short c.args.codes.now c.args.k c.args.ends c.args.cost c.args.formats.now
    c.put_number.ensures.short c.put_number-2.ensures.short c.put_number-3.ensures.short c.put_found.ensures.short
