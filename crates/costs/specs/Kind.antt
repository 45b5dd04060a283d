-- What the layers above say of the costs of a kind.
use Rattle.std.specs.Prelude.{Bool}
use Rattle.costs.specs.declared.Cost.{Ghosts as Kind}

-- whether a card may have a held cost, by what the cost means
abbrev pub admits : {C : Type 0} (K : Kind C) → C → Bool
admits K x = K.algebra.admits (K.value x)
