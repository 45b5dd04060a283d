use Rattle.std.proofs.Common.{◌≡◌, ◌*◌, length, take, replicate, None, sym, refl, ap, ◌∙◌, rules}
use Rattle.std.proofs.lemmas.Bool.{cond-false}
use Rattle.lent.specs.Matrix.{matrix, matrix_cleared}
use Rattle.lent.proofs.Matrices.{filled_front, cleared_begins}
use Rattle.lent.proofs.matrix.Matrix.new.Goals as goal
use Rattle.lent.proofs.matrix.Matrix.new.Goals.{then-matrix_fits, else-matrix_fits}

pub returns : goal.returns
returns g c =
    let n = c.args.n in
    let places = c.args.places.now in
    let memory : c.if-matrix_fits.places ≡ matrix_cleared n places = elim c.if-matrix_fits.branch [
      | then-matrix_fits w ↦ let filled : w.fill.new.self ≡ replicate (length (take (n * n) places)) None = search rules in w.places-is ∙ filled_front n places w.fill.new.self w.if-matrix_fits.ensures filled
      | else-matrix_fits w ↦ w.places-is ∙ sym (cond-false _ _ _ (sym w.if-matrix_fits.ensures))
    ] in
    record {
      holds = ap (matrix _ n) memory ∙ cleared_begins _ n places;
      memory = memory;
      size = refl;
      lent = refl;
    }
