use Rattle.std.proofs.Common.{length}
use Rattle.registers.specs.Meaning.{meant, standing}
use Rattle.walks.specs.Levels.{upto}
use Rattle.bay.proofs.Loaded.{RowTo}
use Rattle.bay.proofs.survey.load_row.Given as goal

abbrev pub invariant-loop-t : goal.invariant-loop-t
invariant-loop-t g l =
    let kind = g.R.Cost.Cost in
    RowTo kind (upto l.high (standing (meant kind (g.R.Register.holds l.register))) l.s) (length l.initial.row) l.t l.row l.there
