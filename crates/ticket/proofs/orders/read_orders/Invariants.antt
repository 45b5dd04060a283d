-- The cards and legs up to here are taken.
use Rattle.std.proofs.Common.{◌-◌, length}
use Rattle.bay.specs.Bays.{plain}
use Rattle.ticket.specs.Kinds.{read_as}
use Rattle.ticket.specs.Steps.{OrdersTaken}
use Rattle.ticket.proofs.orders.read_orders.Given as goal

abbrev pub invariant-loop-next : goal.invariant-loop-next
invariant-loop-next g l =
    OrdersTaken g.C.Cost (read_as l.kind g.C.TicketCost.reads) l.text l.from
    (plain l.initial.bay) (plain l.bay) l.initial.ends l.ends l.at

abbrev pub decreases-loop-next : goal.decreases-loop-next
decreases-loop-next g l = length l.text - l.at.place
