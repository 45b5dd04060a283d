use Rattle.registers.specs.Meaning.{stands}
use Rattle.walks.specs.Levels.{upto}
use Rattle.bay.specs.Tracing.{Clear}
use Rattle.bay.specs.RouteWriters.{SameMemory, slots_of}
use Rattle.bay.proofs.SlotSteps.{Progress}
use Rattle.bay.proofs.routes.write_routes.Given as goal

abbrev pub invariant-loop-goal : goal.invariant-loop-goal
invariant-loop-goal g l =
    let K = g.R.Cost.Cost in
    let card = upto l.n (stands K (g.R.Register.holds l.register)) in
    Progress K card (slots_of l.initial.writer) (slots_of l.writer) l.goal × SameMemory l.initial.writer l.writer × Clear l.sheet
