-- One pair of cells after the other is swapped.
use Rattle.bay.proofs.Turned.{row_turned_more}
use Rattle.bay.proofs.substitution.turn_row.Goals as goal

pub loop-t-preserved : goal.loop-t-preserved
loop-t-preserved g c =
    let K = g.C.Cost in
    rw (c.set_cost-in-loop-t.ensures, c.set_cost.ensures)
    (row_turned_more K c.args.n c.args.s c.loop-t.t c.args.cells.now c.loop-t.cells c.requires.room c.requires.inside c.loop-t-test.true c.loop-t.invariant _ _ c.cost_in-back.ensures c.cost_in-there.ensures)
