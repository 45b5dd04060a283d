use Rattle.bay.proofs.Turned.{turned_none}
use Rattle.bay.proofs.substitution.turn_over.Goals as goal

pub loop-s-init : goal.loop-s-init
loop-s-init g c = turned_none g.C.Cost c.args.n c.args.cells.now
