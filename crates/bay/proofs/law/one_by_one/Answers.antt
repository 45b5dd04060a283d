use Rattle.bay.proofs.OneAfterOther.{one_by_one}
use Rattle.bay.proofs.law.one_by_one.Goals as goal

pub returns : goal.returns
returns g c = one_by_one g.C.Cost
