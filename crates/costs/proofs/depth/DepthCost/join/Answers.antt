use Rattle.std.proofs.Common.{arith}
use Rattle.costs.specs.DepthLaws.{same_bits}
use Rattle.costs.proofs.depth.DepthCost.join.Goals as goal

pub returns : goal.returns
returns c = λ m k near p q. same_bits _ _ (omega arith)
