-- The goal and the chain behind it are one chain.
use Rattle.std.proofs.Common.{◌∷◌, arith}
use Rattle.bay.proofs.Sheets.{row_long, row_put, round_begun}
use Rattle.bay.proofs.rows.write_round.Goals as goal

pub returns : goal.returns
returns c = record {
  written = λ fs h.
      let (e, p) = c.follow-count.ensures fs h in
      let long = row_long c.args.sheet.now c.args.k c.requires.room in
      row_put c.args.sheet.now _ _ c.args.k (c.frame.ensures (c.args.goal ∷ fs) _ (round_begun _ _ _ _ fs _ (omega arith) p) (omega arith));
}
