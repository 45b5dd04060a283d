-- What a list register holds, by what its costs mean.
use Rattle.costs.specs.declared.Cost.{Ghosts as Kind}
use Rattle.costs.specs.Kind.{admits}
use Rattle.lent.specs.declared.list.List.{List}
use Rattle.registers.specs.Meaning.{Meaning, meant}
use Rattle.lent.specs.List.{listed}

abbrev pub list_means : {C : Type 0} {K : Kind C} → List C K → Meaning K.algebra.Value
list_means {K = K} l = meant K (listed (admits K) l.n l.entries.now)
