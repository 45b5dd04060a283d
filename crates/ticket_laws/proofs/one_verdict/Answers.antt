use Rattle.ticket.specs.Kinds.{read_as}
use Rattle.ticket_laws.proofs.Deciding.{one_first_line, one_of_kind}
use Rattle.ticket_laws.proofs.one_verdict.Goals as goal

pub returns : goal.returns
returns g c = record { first_line = one_first_line; verdict = λ text kind from n m m' m'' answer other. one_of_kind g.C.Cost (read_as kind g.C.TicketCost.reads) text from m m' m'' answer other n }
