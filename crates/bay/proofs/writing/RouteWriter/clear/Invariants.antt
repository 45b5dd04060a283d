use Rattle.bay.specs.RouteWriters.{SameMemory, slots_of}
use Rattle.bay.proofs.SlotSteps.{Cleared}
use Rattle.bay.proofs.writing.RouteWriter.clear.Given as goal

abbrev pub invariant-loop-k : goal.invariant-loop-k
invariant-loop-k g l = Cleared g.C.Cost (slots_of l.initial.self) (slots_of l.self) l.k × SameMemory l.initial.self l.self
