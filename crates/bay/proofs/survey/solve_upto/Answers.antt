-- The table is loaded with the cards, so what the stages find of its cards holds of them.
use Rattle.std.proofs.Common.{◌*◌, is_some, sym, ap, ◌∙◌, subst}
use Rattle.registers.specs.Meaning.{meant, standing}
use Rattle.walks.specs.Levels.{upto}
use Rattle.bay.specs.Cells.{tabled}
use Rattle.bay.specs.Solved.{Solved}
use Rattle.walks.proofs.Restrict.{upto_inside}
use Rattle.bay.proofs.Passes.{beyond_then, least_is_some}
use Rattle.bay.proofs.Loaded.{LoadedTo, loaded_cards, loaded_laid, loaded_sound}
use Rattle.bay.proofs.survey.solve_upto.Goals as goal

pub settle-requires : goal.settle-requires
settle-requires g c =
    let K = g.R.Cost.Cost in
    let n = c.args.n in
    let m = meant K (g.R.Register.holds c.args.register.now) in
    let card = upto c.args.high (standing m) in
    let t = tabled c.load.new.cells c.load.new.there in
    let loaded : LoadedTo K n card n t = record { rows = c.load.ensures.loaded; admitted = c.load.ensures.admitted } in
    record { laid = loaded_laid K n card t (upto_inside c.args.high n m c.requires.size) loaded c.load.ensures.roomy }

pub returns : goal.returns
returns g c =
    let K = g.R.Cost.Cost in
    let n = c.args.n in
    let m = meant K (g.R.Register.holds c.args.register.now) in
    let card = upto c.args.high (standing m) in
    let inside = upto_inside c.args.high n m c.requires.size in
    let t = tabled c.load.new.cells c.load.new.there in
    let loaded : LoadedTo K n card n t = record { rows = c.load.ensures.loaded; admitted = c.load.ensures.admitted } in
    record {
      beyond = beyond_then (n * n) _ _ _ c.load.ensures.beyond c.settle.ensures.beyond;
      roomy = c.settle.ensures.roomy;
      sound = loaded_sound K n card t inside loaded c.requires.few.1;
      standing = λ s t ls lt. sym (least_is_some K n (tabled c.load.new.cells c.load.new.there) s t) ∙ ap is_some (c.load.ensures.loaded s t ls lt);
      solved = subst (λ f. Solved K n f (tabled c.settle.new.cells c.settle.new.there) c.settle.result) (loaded_cards K n card t inside loaded) c.settle.ensures.solved;
    }
