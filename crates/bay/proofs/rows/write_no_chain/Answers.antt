use Rattle.std.proofs.Common.{[], refl}
use Rattle.bay.proofs.Sheets.{row_put}
use Rattle.bay.proofs.rows.write_no_chain.Goals as goal

pub returns : goal.returns
returns c = record { written = row_put c.args.sheet.now _ _ c.args.k (c.frame.ensures [] _ refl refl) }
