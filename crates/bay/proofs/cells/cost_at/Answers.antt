use Rattle.std.proofs.Common.{Some, sym, ap, ◌∙◌, arith}
use Rattle.bay.specs.Cells.{tabled}
use Rattle.bay.proofs.Passes.{place_lt, least_there, least_none}
use Rattle.bay.proofs.cells.cost_at.Goals as goal

pub cost_in-requires : goal.cost_in-requires
cost_in-requires g c = omega (arith, place_lt c.args.n c.args.s c.args.t c.requires.inside.0 c.requires.inside.1, c.requires.room)

pub returns-then-holds : goal.returns-then-holds
returns-then-holds g c = ap Some c.cost_in.ensures ∙ sym (least_there g.C.Cost c.args.n (tabled c.args.cells.now c.args.there.now) c.args.s c.args.t (sym c.holds.ensures ∙ c.if-holds.true))

pub returns-else-holds : goal.returns-else-holds
returns-else-holds g c = sym (least_none g.C.Cost c.args.n (tabled c.args.cells.now c.args.there.now) c.args.s c.args.t (sym c.holds.ensures ∙ c.if-holds.false))
