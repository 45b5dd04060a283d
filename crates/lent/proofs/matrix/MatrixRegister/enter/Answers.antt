use Rattle.std.proofs.Common.{sym, refl, rules}
use Rattle.std.proofs.lemmas.Bool.{and_parts}
use Rattle.lent.proofs.Matrices.{pair_below, matrix_entered}
use Rattle.lent.proofs.matrix.MatrixRegister.enter.Goals as goal

pub bounds-self-place : goal.bounds-self-place
bounds-self-place g c =
    let fine = and_parts _ _ (sym c.in_ok-judge_entry.ensures.fine) in
    pair_below g.C.Cost c.args.self.now.n c.args.self.now.places.now c.args.from c.args.to _ c.size.ensures.value fine.0 c.if-not-matrix_fits.ensures

pub offset_bounds-self-place : goal.offset_bounds-self-place
offset_bounds-self-place g c =
    let fine = and_parts _ _ (sym c.in_ok-judge_entry.ensures.fine) in
    let below = pair_below g.C.Cost c.args.self.now.n c.args.self.now.places.now c.args.from c.args.to _ c.size.ensures.value fine.0 c.if-not-matrix_fits.ensures in
    search rules

pub returns : goal.returns
returns g c =
    let fine = and_parts _ _ (sym c.in_ok-judge_entry.ensures.fine) in
    let done = matrix_entered g.C.Cost c.args.self.now.n c.args.self.now.places.now c.args.from c.args.to _ c.size.ensures.value fine.0 c.if-not-matrix_fits.ensures c.args.cost fine.1 in
    record { answer = done.0; after = done.1; memory = refl; size = refl; lent = refl }
