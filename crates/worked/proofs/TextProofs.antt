-- The worked texts hold.
use Rattle.std.proofs.Common.{refl}
use Rattle.std.specs.Fmt.{digits}
use Rattle.worked.specs.Texts.{TextCases}

pub worked_texts : TextCases
unfolding digits
worked_texts = record { none = refl; even = refl; odd = refl; half = refl; even_back = refl; odd_back = refl; half_back = refl; parts = refl; unit_parts = refl }
