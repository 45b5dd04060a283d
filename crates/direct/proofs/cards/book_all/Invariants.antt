-- The legs up to here are booked.
use Rattle.bay.specs.Bays.{plain}
use Rattle.direct.proofs.Booking.{Taken}
use Rattle.direct.proofs.cards.book_all.Given as goal

abbrev pub invariant-loop-leg : goal.invariant-loop-leg
invariant-loop-leg g l =
    Taken (plain l.initial.bay) (plain l.bay) l.legs l.leg-index
