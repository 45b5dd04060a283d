use Rattle.std.proofs.Common.{◌+◌, ◌≤◌, is_some}
use Rattle.bay.specs.Cells.{least_in, tabled}
use Rattle.bay.specs.Eliminated.{Block, Improved, Tally}
use Rattle.bay.proofs.elimination.pass.Given as goal

abbrev pub invariant-loop-s : goal.invariant-loop-s
invariant-loop-s g l =
    let K = g.C.Cost in
    let before = tabled l.initial.cells l.initial.there in
    Improved K l.n l.at (Block (l.at + 1) l.s (l.at + 1) l.n) before (tabled l.cells l.there) × Tally (λ s. is_some (least_in K l.n before s l.at)) (l.at + 1) l.s l.count × (l.count + (l.at + 1) ≤ l.s)
