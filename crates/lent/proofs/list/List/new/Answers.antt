use Rattle.std.proofs.Common.{◌≡◌, ap, ◌∙◌, arith}
use Rattle.std.proofs.lemmas.Grind.{common_steps}
use Rattle.lent.specs.List.{listed, list_cleared}
use Rattle.lent.proofs.Listed.{list_begins}
use Rattle.lent.proofs.list.List.new.Goals as goal

pub returns-clause-holds : goal.returns-clause-holds
returns-clause-holds g c =
    let memory : c.if-list_fits.entries ≡ list_cleared c.args.n c.args.entries.now = grind (arith, common_steps) in
    ap (listed _ c.args.n) memory ∙ list_begins _ c.args.n c.args.entries.now
