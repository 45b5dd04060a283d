-- One cell after the other is loaded.
use Rattle.std.proofs.Common.{◌≡◌, ◌<◌, true, length, IfSome, Some, sym, ap, ◌∙◌, subst, arith}
use Rattle.std.specs.Option.{option_map}
use Rattle.std.proofs.lemmas.List.{set-get_or}
use Rattle.std.proofs.lemmas.Option.{same_Some}
use Rattle.registers.specs.Meaning.{meant, standing}
use Rattle.walks.specs.Levels.{upto}
use Rattle.bay.proofs.Loaded.{row_card, row_gap}
use Rattle.bay.proofs.survey.load_row.Goals as goal
use Rattle.bay.proofs.survey.load_row.Goals.{in-Some, in_default}

pub loop-t-preserved : goal.loop-t-preserved
loop-t-preserved g c =
    let K = g.R.Cost.Cost in
    let t = c.loop-t.t in
    let n = length c.args.row.now in
    let card = upto c.args.high (standing (meant K (g.R.Register.holds c.args.register.now))) c.args.s in
    let r = c.loop-t.invariant in
    let l : t < n = omega (arith, c.loop-t-test.true, r.length_is) in
    let told = c.card_upto.ensures in
    elim c.match-card_upto.branch [
      | in-Some w ↦
          let is : Some (K.value w.in-Some.cost) ≡ card t = sym (ap (option_map K.value) w.in-Some.is) ∙ told.value in
          rw (w.row-is, w.there-is)
          (row_card K card n t c.loop-t.row c.loop-t.there r l _ is
          (λ x e. subst (λ y. K.algebra.admits y ≡ true) (same_Some _ _ (is ∙ e)) (subst (λ o. IfSome o (λ x. K.algebra.admits (K.value x) ≡ true)) w.in-Some.is told.admitted))
          _ w.with-there.ensures.there w.with-there.ensures.others)
      | in_default w ↦
          rw (w.row-is ∙ set-get_or c.loop-t.row t _, w.there-is) (row_gap K card n t c.loop-t.row c.loop-t.there r (sym (ap (option_map K.value) w.in_default.is) ∙ told.value))
    ]
