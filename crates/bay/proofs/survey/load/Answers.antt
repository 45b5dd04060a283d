-- One row after the other is loaded.
use Rattle.std.proofs.Common.{◌≡◌, ◌+◌, ◌-◌, ◌*◌, ◌≤◌, length, drop, ◌∙◌, arith}
use Rattle.std.proofs.lemmas.List.{length-take-le, length-drop, length-set}
use Rattle.registers.specs.Meaning.{meant, standing}
use Rattle.walks.specs.Levels.{upto}
use Rattle.bay.proofs.Loaded.{beyond_part, loaded_row}
use Rattle.bay.proofs.Passes.{row_end}
use Rattle.bay.proofs.survey.load.Goals as goal

pub loop-s-preserved : goal.loop-s-preserved
loop-s-preserved g c =
    let K = g.R.Cost.Cost in
    let n = c.args.n in
    let s = c.loop-s.s in
    let (was, long, loaded) = c.loop-s.invariant in
    let card = upto c.args.high (standing (meant K (g.R.Register.holds c.args.register.now))) in
    let row = c.load_row.new.row in
    let inside : s * n + n ≤ n * n = row_end n s c.loop-s-test.true in
    let part = length-take-le (s * n + n - s * n) (drop (s * n) c.loop-s.cells) (omega (arith, length-drop (s * n) c.loop-s.cells, inside, was.long, c.requires.room)) in
    let row_long : length row ≡ n = omega (arith, c.load_row.ensures.long, part) in (
      beyond_part (n * n) (s * n) (s * n + n) _ c.loop-s.cells row (omega arith) inside c.requires.room (omega (arith, row_long)) was,
      length-set c.loop-s.there s c.load_row.result ∙ long,
      loaded_row K n card s c.loop-s.cells row c.loop-s.there c.load_row.result c.loop-s-test.true (omega (arith, was.long, c.requires.room)) long c.requires.few.1 row_long
          (λ w l. c.load_row.ensures.loaded w (omega (arith, l, part))) (λ w l. c.load_row.ensures.admitted w (omega (arith, l, part))) loaded,
    )
