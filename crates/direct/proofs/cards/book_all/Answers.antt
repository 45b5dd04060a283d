use Rattle.std.proofs.Common.{sym}
use Rattle.direct.proofs.Booking.{taken_none, taken_more, taken_all}
use Rattle.direct.proofs.cards.book_all.Goals as goal

pub loop-leg-init : goal.loop-leg-init
loop-leg-init g c = taken_none _ _

pub loop-leg-preserved : goal.loop-leg-preserved
loop-leg-preserved g c = taken_more _ _ _ _ _ c.loop-leg-test.true c.loop-leg.invariant (sym c.in_ok-book.ensures.answer) _ c.in_ok-book.ensures.after

pub returns : goal.returns
returns g c = taken_all _ _ _ _ c.loop-leg-test.false c.loop-leg.invariant
