use Rattle.lent.proofs.Ordered.{up_made}
use Rattle.lent.proofs.list.shift_up.Goals as goal

pub returns : goal.returns
returns g c = up_made c.args.count c.args.place c.args.entries.now _ c.requires.place c.requires.room c.requires.clear _ c.copy_within.ensures.len c.copy_within.ensures.by_index
