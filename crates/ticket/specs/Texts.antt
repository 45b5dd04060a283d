-- The kinds that a ticket can have, each with how its costs are read and printed.
use Rattle.costs.specs.declared.delay.Delay.{Delay}
use Rattle.costs.specs.declared.depth.Depth.{Depth}
use Rattle.costs.specs.declared.pair.Pair.{Pair}
use Rattle.lines.specs.declared.line.Amount.{Amount}
use Rattle.ticket.specs.Kinds.{delay_of, depth_of, both_of, delay_amount, depth_amount, both_amount}

-- the cost that the amount of a card line stands for, and the amount that stands for a cost
pub record CostTexts (C : Type 0) : Type 0 where
  pub reads : Amount → C
  pub writes : C → Amount

abbrev pub texts : {C : Type 0} → (Amount → C) → (C → Amount) → CostTexts C
texts reads writes = record { reads = reads; writes = writes }

abbrev pub delay_texts : CostTexts Delay
delay_texts = record { reads = delay_of; writes = delay_amount }

abbrev pub depth_texts : CostTexts Depth
depth_texts = record { reads = depth_of; writes = depth_amount }

abbrev pub both_texts : CostTexts (Pair Delay Depth)
both_texts = record { reads = both_of; writes = both_amount }
