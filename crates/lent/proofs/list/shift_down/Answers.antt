use Rattle.lent.proofs.Ordered.{down_made}
use Rattle.lent.proofs.list.shift_down.Goals as goal

pub returns : goal.returns
returns g c = down_made c.args.count c.args.place c.args.entries.now c.requires.place c.requires.few c.requires.clear _ c.copy_within.ensures.len c.copy_within.ensures.by_index
