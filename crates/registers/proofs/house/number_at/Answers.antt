use Rattle.std.proofs.Common.{◌∙◌, w32, rules}
use Rattle.std.proofs.lemmas.Int.{to_z-of_z}
use Rattle.registers.proofs.HouseCards.{number_held}
use Rattle.registers.proofs.house.number_at.Goals as goal

pub returns : goal.returns
returns c = to_z-of_z w32 _ (search rules) ∙ number_held c.args.place c.requires
