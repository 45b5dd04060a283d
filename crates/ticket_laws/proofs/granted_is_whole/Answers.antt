use Rattle.ticket_laws.proofs.Wholes.{granted_kind}
use Rattle.ticket_laws.proofs.granted_is_whole.Goals as goal

pub returns : goal.returns
returns g c = λ text bay m m' legs has. granted_kind g.C.Cost g.C.TicketCost.reads text bay has m m' legs
