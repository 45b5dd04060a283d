use Rattle.worked.proofs.CaseProofs.{worked_cases}
use Rattle.worked.proofs.RouteProofs.{worked_routes}
use Rattle.worked.proofs.ForkProofs.{worked_forks}
use Rattle.worked.proofs.SampleAnswer.{sample_answered}
use Rattle.worked.proofs.TextProofs.{worked_texts}
use Rattle.worked.proofs.worked_cases.Goals as goal

pub returns : goal.returns
returns c = record { sample_ticket = sample_answered; walks = worked_cases; routes = worked_routes; forks = worked_forks; texts = worked_texts }
