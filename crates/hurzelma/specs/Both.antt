-- A delay and a depth as a host in C hands them, and the pair that they are.
use Rattle.costs.specs.declared.Cost.{Ghosts as Kind}
use Rattle.costs.specs.declared.delay.Delay.{Delay}
use Rattle.costs.specs.declared.depth.Depth.{Depth}
use Rattle.costs.specs.declared.pair.Pair.{Pair}
use Rattle.costs.specs.Depth.{depth, bits}
use Rattle.costs.specs.Delay.{delay}
use Rattle.costs.specs.Pair.{pair}
use Rattle.hurzelma.specs.declared.both.Both.{Both}

abbrev pub both_of : Pair Delay Depth → Both
both_of p = record { delay = p.first; depth = p.second }

abbrev pub pair_of : Both → Pair Delay Depth
pair_of b = record { first = b.delay; second = b.depth }

-- the algebra of the pair, with the value of what crosses
abbrev pub crossing : Kind Both
crossing = record { algebra = pair delay depth; value = λ b. (b.delay.half_lines, bits b.depth.bits) }
