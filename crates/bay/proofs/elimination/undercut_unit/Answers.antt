-- The combination of the two costs is exact.
use Rattle.std.proofs.Common.{ap}
use Rattle.std.specs.Option.{option_map}
use Rattle.bay.proofs.Passes.{held_decides}
use Rattle.bay.proofs.elimination.undercut_unit.Goals as goal

pub returns-in-Some-Some : goal.returns-in-Some-Some
returns-in-Some-Some g c =
    let means = option_map g.C.Cost.value in
    held_decides g.met.C.Cost.lawful _ _ c.requires _ _ _ (ap means c.in-Some-Some.is-0) (ap means c.in-Some-Some.is-1) c.join.ensures
    _ _ c.unit.ensures c.undercuts.ensures.yes c.undercuts.ensures.never
