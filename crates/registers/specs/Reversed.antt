-- A register seen from the output side: every card is turned round, and the register below stays as it is.
use Rattle.std.specs.Prelude.{true, false}
use Rattle.registers.specs.Meaning.{Meaning}
use Rattle.registers.specs.View.{viewed}

-- what holds from a to b is what holds below from b to a
abbrev pub reversed : {V : Type 0} → Meaning V → Meaning V
reversed = viewed (λ a b. false) true
