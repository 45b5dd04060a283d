use Rattle.std.proofs.Common.{refl}
use Rattle.bay.proofs.Passes.{meaning_read}
use Rattle.bay.proofs.cells.cost_in.Goals as goal

pub returns : goal.returns
returns g c = meaning_read g.C.Cost c.args.cells.now _ c.index-cells-place.result _ c.requires refl
