-- The costs of each kind as the amounts that a ticket has for them, and how the card lines of a ticket are read.
use Rattle.std.specs.Prelude.{cond, ℤ, pos, negsuc, nat_le}
use Rattle.costs.specs.Depth.{deepest}
use Rattle.costs.specs.declared.delay.Delay.{Delay}
use Rattle.costs.specs.declared.depth.Depth.{Depth}
use Rattle.costs.specs.declared.pair.Pair.{Pair}
use Rattle.lines.specs.declared.line.Amount.{Amount}
use Rattle.lines.specs.declared.line.Amount.TheVariants.{HalfLines, Bits, Both}
use Rattle.lines.specs.declared.line.Kind.{Kind}

-- a delay, a depth, and one of each, that no card may have
abbrev pub no_delay : Delay
no_delay = record { half_lines = negsuc 2_147_483_647 }

abbrev pub no_depth : Depth
no_depth = record { bits = 0 }

abbrev pub no_both : Pair Delay Depth
no_both = record { first = no_delay; second = no_depth }

-- a delay of so many half lines; an amount of another kind is taken for one that no card may have
abbrev pub delay_of : Amount → Delay
delay_of (HalfLines z) = record { half_lines = z }
delay_of (Bits z) = no_delay
delay_of (Both z w) = no_delay

-- a depth of so many bits; where no depth has so many, one that no card may have
abbrev pub depth_from : ℤ → Depth
depth_from (pos n) = record { bits = cond (nat_le n deepest) n 0 }
depth_from (negsuc n) = no_depth

abbrev pub depth_of : Amount → Depth
depth_of (HalfLines z) = no_depth
depth_of (Bits z) = depth_from z
depth_of (Both z w) = no_depth

-- a delay and a depth, each part as in a ticket of its own kind
abbrev pub both_of : Amount → Pair Delay Depth
both_of (HalfLines z) = no_both
both_of (Bits z) = no_both
both_of (Both z w) = record { first = record { half_lines = z }; second = depth_from w }

-- the amount that stands for a delay, for a depth, and for one of each
abbrev pub delay_amount : Delay → Amount
delay_amount d = HalfLines d.half_lines

abbrev pub depth_amount : Depth → Amount
depth_amount d = Bits (pos d.bits)

abbrev pub both_amount : Pair Delay Depth → Amount
both_amount p = Both p.first.half_lines (pos p.second.bits)

-- How the card lines of a ticket are read: the kind of its bay line, which says what fits, and the cost that an amount stands for.
pub record ReadAs (C : Type 0) : Type 0 where
  pub kind : Kind
  pub cost_of : Amount → C

abbrev pub read_as : {C : Type 0} → Kind → (Amount → C) → ReadAs C
read_as kind cost_of = record { kind = kind; cost_of = cost_of }
