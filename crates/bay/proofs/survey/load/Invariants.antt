use Rattle.std.proofs.Common.{◌≡◌, ◌*◌, length}
use Rattle.registers.specs.Meaning.{meant, most_formats, standing}
use Rattle.bay.specs.Buffers.{Beyond}
use Rattle.bay.specs.Cells.{tabled}
use Rattle.walks.specs.Levels.{upto}
use Rattle.bay.proofs.Loaded.{LoadedTo}
use Rattle.bay.proofs.survey.load.Given as goal

abbrev pub invariant-loop-s : goal.invariant-loop-s
invariant-loop-s g l =
    let kind = g.R.Cost.Cost in
    Beyond (l.n * l.n) l.initial.cells l.cells × (length l.there ≡ most_formats) ×
    LoadedTo kind l.n (upto l.high (standing (meant kind (g.R.Register.holds l.register)))) l.s (tabled l.cells l.there)
