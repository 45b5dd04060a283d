-- A card of the house table has the number of its place.
use Rattle.std.proofs.Common.{◌∙◌, w32, SFits, Some, None, rules}
use Rattle.std.proofs.lemmas.Int.{to_z-of_z}
use Rattle.tables.specs.OwnLaws.{own_read}
use Rattle.tables.proofs.own.own_number.Goals as goal

pub returns-in-Some : goal.returns-in-Some
returns-in-Some c =
    let fits : SFits w32 c.in-Some.delay.half_lines = search rules in
    to_z-of_z w32 _ fits ∙ own_read c.args.index c.requires (Some c.in-Some.delay) c.in-Some.ensures.value

pub returns-in-None : goal.returns-in-None
returns-in-None c = own_read c.args.index c.requires None c.in-None.ensures.value
