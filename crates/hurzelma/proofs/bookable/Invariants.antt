-- The legs so far can be booked.
use Rattle.hurzelma.specs.Host.{is_within}
use Rattle.hurzelma.proofs.Legs.{So}
use Rattle.hurzelma.proofs.bookable.Given as goal

abbrev pub invariant-loop-k : goal.invariant-loop-k
invariant-loop-k l = So (is_within l.n) l.legs l.k
