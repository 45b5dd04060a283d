use Rattle.std.proofs.Common.{get_or, None, w32, SFits, rules}
use Rattle.std.proofs.lemmas.Int.{to_z-of_z}
use Rattle.registers.specs.House.{house_cards}
use Rattle.registers.proofs.HouseCards.{house_admitted, none_read, some_read}
use Rattle.registers.proofs.house.delay_at.Goals as goal

pub returns-then-half_lines-clause-value : goal.returns-then-half_lines-clause-value
returns-then-half_lines-clause-value c = none_read _ _ (house_admitted c.args.place c.requires) c.number_at-half_lines.ensures c.if-half_lines.true

pub returns-else-half_lines : goal.returns-else-half_lines
returns-else-half_lines c =
    let fits : SFits w32 c.number_at-half_lines.result = search rules in
    let read = some_read (get_or house_cards c.args.place None) c.number_at-half_lines.result (house_admitted c.args.place c.requires) c.number_at-half_lines.ensures c.if-half_lines.false in
    record { value = simp to_z-of_z read.0; admitted = simp to_z-of_z read.1 }
