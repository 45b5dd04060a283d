use Rattle.std.proofs.Common.{arith}
use Rattle.bay.specs.RouteWriters.{slots_of}
use Rattle.bay.proofs.SlotSteps.{cleared_more, lent_room, same_number}
use Rattle.bay.proofs.writing.RouteWriter.clear.Goals as goal

pub loop-k-preserved : goal.loop-k-preserved
loop-k-preserved g c =
    let (cleared, lent) = c.loop-k.invariant in
    let before = slots_of c.args.self.now in
    let now = slots_of c.loop-k.self in (
      cleared_more g.C.Cost before now c.loop-k.k
          (omega (arith, same_number before now cleared.0, c.len-k-end.ensures.value)) (lent_room c.loop-k.self) cleared
          c.unit.result c.unit.ensures _ _ c.set_note.ensures c.write_no_chain.ensures.written,
      lent,
    )

pub returns-clause-blank : goal.returns-clause-blank
returns-clause-blank g c = λ k lt. c.loop-k.invariant.0.1 k (omega (arith, same_number (slots_of c.args.self.now) (slots_of c.loop-k.self) c.loop-k.invariant.0.0, c.len-k-end.ensures.value))
