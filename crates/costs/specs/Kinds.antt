-- The kinds, each with the value of what is held.
use Rattle.costs.specs.declared.Cost.{Ghosts as Kind}
use Rattle.costs.specs.declared.delay.Delay.{Delay}
use Rattle.costs.specs.declared.depth.Depth.{Depth}
use Rattle.costs.specs.declared.pair.Pair.{Pair}
use Rattle.costs.specs.Delay.{delay}
use Rattle.costs.specs.Depth.{depth, bits}
use Rattle.costs.specs.Pair.{pair}

abbrev pub delays : Kind Delay
delays = record { algebra = delay; value = λ d. d.half_lines }

abbrev pub depths : Kind Depth
depths = record { algebra = depth; value = λ d. bits d.bits }

-- delay, and depth where delays are equal
abbrev pub boths : Kind (Pair Delay Depth)
boths = record { algebra = pair delay depth; value = λ p. (p.first.half_lines, bits p.second.bits) }
