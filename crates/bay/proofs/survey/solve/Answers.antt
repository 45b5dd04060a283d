-- All of a register's cards are cards up to its size.
use Rattle.std.proofs.Common.{◌*◌, subst}
use Rattle.registers.specs.Meaning.{meant, standing}
use Rattle.bay.specs.Buffers.{Beyond}
use Rattle.bay.specs.Cells.{Roomy, tabled}
use Rattle.bay.specs.FormatSets.{Standing}
use Rattle.walks.specs.Theorems.{Sound}
use Rattle.walks.specs.Levels.{upto}
use Rattle.bay.specs.Solved.{Solved}
use Rattle.walks.proofs.Restrict.{standing_inside, upto_all}
use Rattle.bay.proofs.survey.solve.Goals as goal

pub returns : goal.returns
returns g c =
    let K = g.R.Cost.Cost in
    let m = meant K (g.R.Register.holds c.args.register.now) in
    let card = standing m in
    let all = upto_all m.size card (standing_inside m) in
    let is = c.size-n.ensures.value in
    let done = c.solve_upto.ensures in
    let cells = c.solve_upto.new.cells in
    let t = tabled cells c.solve_upto.new.there in
    record {
      beyond = subst (λ n. Beyond (n * n) c.args.cells.now cells) is done.beyond;
      roomy = subst (λ n. Roomy K n t) is done.roomy;
      sound = subst (Sound K.algebra m.size) all (subst (λ n. Sound K.algebra n (upto n card)) is done.sound);
      standing = subst (λ f. Standing m.size f c.solve_upto.new.standing) all (subst (λ n. Standing n (upto n card) c.solve_upto.new.standing) is done.standing);
      solved = subst (λ f. Solved K m.size f t c.solve_upto.result) all
          (subst (λ n. Solved K n (upto n card) t c.solve_upto.result) is done.solved);
    }
