-- The look stops at the first lower format at which a closed walk undercuts the unit.
use Rattle.std.proofs.Common.{ℕ, refl, arith, rules}
use Rattle.std.proofs.lemmas.Iterator.{YieldsList-from_range, cases_from_any}
use Rattle.bay.specs.Cells.{tabled}
use Rattle.bay.specs.Eliminated.{Closes}
use Rattle.walks.proofs.Ranges.{any_below}
use Rattle.bay.proofs.elimination.looks.Goals as goal

pub returns : goal.returns
returns g c =
    let h = c.args.at in
    let P : ℕ → Type 0 = Closes g.C.Cost c.args.n (tabled c.args.cells.now c.args.there.now) h in
    let any = cases_from_any _ _ _ P (λ k. P k → ⊥) c.any.ensures.ran (YieldsList-from_range 0 h h refl (omega arith)) (λ x q k. search rules) (λ x q k. search rules) in
    let (some, none) = any_below P h _ any in
    record { yes = some; no = none }
