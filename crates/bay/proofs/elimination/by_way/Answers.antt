-- What is filled and what is improved make one pass over the row; one with no cost to the pivot stays.
use Rattle.std.proofs.Common.{◌≡◌, false, get_or, sym, refl, ◌∙◌, arith}
use Rattle.bay.specs.Cells.{tabled}
use Rattle.bay.specs.FormatSets.{holds, no_formats}
use Rattle.bay.proofs.Passes.{beyond_none, least_is_some, row_none}
use Rattle.bay.proofs.RowSteps.{row_improved}
use Rattle.bay.proofs.elimination.by_way.Goals as goal

pub returns-then-not-holds : goal.returns-then-not-holds
returns-then-not-holds g c =
    let t = tabled c.args.cells.now c.args.there.now in
    let none : holds (get_or c.args.there.now c.args.s no_formats) c.args.via.now.at ≡ false = sym c.holds.ensures ∙ c.if-not-holds.true in
    record {
      beyond = beyond_none _ _;
      passed = λ near. row_none g.C.Cost c.args.n g.met.C.Cost.lawful c.args.s c.args.via.now t none;
      roomy = c.requires.ready.roomy;
      others = λ a ne. refl;
      answer = sym (least_is_some g.C.Cost c.args.n t c.args.s c.args.via.now.at ∙ none);
    }

pub returns-clause-passed : goal.returns-clause-passed
returns-clause-passed g c =
    let t = tabled c.args.cells.now c.args.there.now in
    let ready = c.requires.ready in
    λ near. row_improved g.C.Cost g.met.C.Cost.lawful c.args.n c.args.s c.args.via.now t c.fill.new.cells c.improve.new.cells c.except.result c.or.result c.cost_in-held.result
    ready (sym c.holds.ensures ∙ c.if-not-holds.false) c.cost_in-held.ensures c.except.ensures.less c.except.ensures.inside c.or.ensures
    c.fill.ensures.beyond c.fill.ensures.others c.fill.ensures.filled c.improve.ensures.beyond c.improve.ensures.others c.improve.ensures.better near (omega (arith, ready.roomy.few))
