-- One of the lower formats serves, and the first that does is found.
use Rattle.std.proofs.Common.{◌≡◌, ℕ, ◌<◌, is_some, Some, ap, subst, rules}
use Rattle.std.proofs.lemmas.Iterator.{first_from_Range}
use Rattle.registers.specs.Meaning.{meant, standing}
use Rattle.bay.specs.Cells.{tabled}
use Rattle.bay.specs.Solved.{Turns}
use Rattle.walks.proofs.Ranges.{find_below}
use Rattle.bay.proofs.negative_cycle.way_out.Given as given
use Rattle.bay.proofs.negative_cycle.way_out.Goals as goal

abbrev Serves : (g : given.Over) → goal.After-find g → ℕ → Type 0
Serves g c =
    let kind = g.R.Cost.Cost in
    Turns kind c.args.n (standing (meant kind (g.R.Register.holds c.args.register.now))) (tabled c.args.cells.now c.args.there.now) c.args.h

found : (g : given.Over) (c : goal.After-find g) → (v : ℕ) × (c.find.result ≡ Some v) × (v < c.args.h) × Serves g c v
found g c =
    find_below (Serves g c) c.args.h _ c.requires.some
    (first_from_Range _ _ _ _ (Serves g c) (λ v. Serves g c v → ⊥) c.find.ensures.ran
    (λ x q k. let t : Serves g c k.shown.now = search rules in subst (Serves g c) k.shows t)
    (λ x q k. (search rules, let t : Serves g c k.shown.now → ⊥ = search rules in subst (λ v. Serves g c v → ⊥) k.shows t)))

pub unwrap-requires : goal.unwrap-requires
unwrap-requires g c = ap is_some (found g c).1

pub returns : goal.returns
returns g c =
    let (v, is, l, turns) = found g c.before in
    let same : v ≡ c.unwrap.result = cc in
    subst (λ v. (v < c.args.h) × Serves g c.before v) same (l, turns)
