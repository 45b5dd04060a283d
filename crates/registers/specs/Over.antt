-- What a register over another one shows: what is below it, seen through its view.
use Rattle.registers.specs.Meaning.{Meaning}
use Rattle.registers.specs.View.{pair_below, viewed}
use Rattle.registers.specs.declared.Register.{Ghosts as RegisterOf}
use Rattle.registers.specs.declared.over.Over.{Over}
use Rattle.registers.specs.declared.over.View.{Ghosts as ViewOf}
use Rattle.std.specs.Prelude.{ℕ}

module _ {R C V : Type 0} (H : RegisterOf R C) (W : ViewOf V) where
  abbrev pub shown : Over R V → Meaning C
  shown o = viewed (W.shuts o.view) (W.turned o.view) (H.holds o.below)
