use Rattle.std.proofs.Common.{ℕ, List, Ok, Err, Result}
use Rattle.costs.specs.declared.Cost.{Ghosts as CostKind}
use Rattle.ticket.specs.Kinds.{read_as}
use Rattle.ticket.specs.Answers.{Contents, KindAnswer}
use Rattle.ticket.specs.declared.fault.Refusal.{Refusal}
use Rattle.ticket.specs.Texts.{CostTexts, texts}
use Rattle.ticket.specs.declared.serve.BayLine.{BayLine}
use Rattle.ticket_laws.proofs.Wholes.{granted_kind}
use Rattle.listing.specs.Answered.{WholeIf}
use Rattle.listing.proofs.answer.answer_ticket.Goals as goal

whole_if : {C : Type 0} (K : CostKind C) (T : CostTexts C) (text : List ℕ) (bay : BayLine) (m m' : Contents C) (answer : Result ℕ Refusal) → KindAnswer K (read_as bay.kind T.reads) text bay.end m m' answer bay.size → WholeIf K T text bay m' answer
whole_if K T text bay m m' (Ok legs) right = λ has. granted_kind K T.reads text bay has m m' legs right
whole_if K T text bay m m' (Err refusal) right = tt

pub returns-clause-answer : goal.returns-clause-answer
returns-clause-answer g c = record {
  right = c.route_ticket-verdict.ensures.answer;
  whole = whole_if g.C.Cost (texts g.C.TicketCost.reads g.C.TicketCost.writes) _ _ _ _ c.route_ticket-verdict.result c.route_ticket-verdict.ensures.answer;
  printed = c.write_lent-text.ensures.printed;
}
