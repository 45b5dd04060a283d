-- The further law that the first part of a pair of kinds keeps.
use Rattle.std.specs.Prelude.{◌≡◌, Bool, true, false}
use Rattle.costs.specs.Algebra.{Algebra}

-- undercutting stays strict when both sides are combined with the same cost
abbrev pub Strict : Algebra → Type 0
Strict A = (a b c : A.Value) → A.Under a b → A.Under (A.join a c) (A.join b c)

-- the answer is whether P holds
abbrev pub Tells : Bool → Type 0 → Type 0
Tells answer P = (answer ≡ true → P) × (answer ≡ false → P → ⊥)
