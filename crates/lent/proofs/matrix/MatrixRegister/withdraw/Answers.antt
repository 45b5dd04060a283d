use Rattle.std.proofs.Common.{sym, ap, ◌∙◌, is_ok}
use Rattle.lent.proofs.Matrices.{matrix_withdraw_after}
use Rattle.lent.proofs.matrix.MatrixRegister.withdraw.Goals as goal

pub returns-clause-after : goal.returns-clause-after
returns-clause-after g c =
    matrix_withdraw_after g.C.Cost c.args.self.now.n c.args.self.now.places.now c.args.from c.args.to _ c.size.ensures.value (sym c.in_ok-judge_pair.ensures.fine) c.if-not-matrix_fits.ensures c.card.result c.card.ensures.value (sym c.ok_or.ensures.variant ∙ ap is_ok c.in_ok-ok_or.was)
