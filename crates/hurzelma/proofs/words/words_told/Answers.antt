use Rattle.std.proofs.Common.{sym, ◌∙◌}
use Rattle.std.proofs.lemmas.Bool.{cond-false}
use Rattle.hurzelma.specs.declared.words.TheConstants.{CAUSES}
use Rattle.hurzelma.proofs.Told.{here, further}
use Rattle.hurzelma.proofs.words.words_told.Goals as goal

pub returns-then-number-told-clause-words : goal.returns-then-number-told-clause-words
returns-then-number-told-clause-words c =
    here CAUSES c.args.told c.loop-cause.cause-index _ c.number.result c.loop-cause-test.true c.number.ensures c.loop-cause.invariant c.words.result.now c.words.ensures.words c.if-number-told.true
    ∙ sym (cond-false _ _ _ (sym c.is_of_number.ensures ∙ c.if-is_of_number.false))

pub loop-cause-preserved : goal.loop-cause-preserved
loop-cause-preserved c =
    further CAUSES c.args.told c.loop-cause.cause-index _ c.number.result c.loop-cause-test.true c.number.ensures c.loop-cause.invariant c.if-number-told.false
