-- The lines of the first k legs.
use Rattle.std.proofs.Common.{◌*◌, map}
use Rattle.listing.specs.Lengths.{most_line}
use Rattle.listing.specs.Text.{legs_text}
use Rattle.listing.proofs.Lengths.{WritesUpTo}
use Rattle.listing.proofs.answer.put_listing.Given as goal

abbrev pub invariant-loop-k : goal.invariant-loop-k
invariant-loop-k g l = WritesUpTo l.initial.out l.out (legs_text l.view.codes.now l.view.ends.now (map g.C.TicketCost.writes l.view.costs.now) l.view.chains.now l.k) (most_line * l.k)
