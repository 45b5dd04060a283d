use Rattle.std.proofs.Common.{get_or, take, drop, sym, ap, ◌∙◌}
use Rattle.listing.proofs.Rows.{take_min, row_is}
use Rattle.listing.proofs.text.row_formats.Goals as goal

pub returns-in-Some-clause-formats : goal.returns-in-Some-clause-formats
returns-in-Some-clause-formats c =
    take_min c.in-Some.formats.now c.in-Some.count.now c.min.result c.min.ensures
    ∙ ap (λ row. take (get_or row 0 0) (drop 1 row))
    (sym c.in-Some.ensures.cases.0 ∙ row_is c.args.chains.now c.args.k c.min-start.result c.min-end.result c.min-start.ensures c.min-end.ensures)
