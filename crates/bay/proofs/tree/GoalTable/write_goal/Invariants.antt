use Rattle.bay.specs.GoalTables.{cards_of}
use Rattle.bay.specs.RouteWriters.{SameMemory, slots_of}
use Rattle.bay.proofs.SlotSteps.{Serving}
use Rattle.bay.proofs.tree.GoalTable.write_goal.Given as goal

abbrev pub invariant-loop-k : goal.invariant-loop-k
invariant-loop-k g l =
    Serving g.R.Cost.Cost (cards_of l.self) l.next l.self.goal (slots_of l.initial.writer) (slots_of l.writer) l.k × SameMemory l.initial.writer l.writer
