-- The faults of two ends, as each layer tells them.
use Rattle.std.specs.Prelude.{Some, None, Ok, Err, Option, Result}
use Rattle.registers.specs.Fault.{code}
use Rattle.registers.specs.declared.fault.Code.{Code}
use Rattle.registers.specs.declared.fault.Layer.{Layer}
use Rattle.registers.specs.declared.fault.EndsFault.{EndsFault}
use Rattle.registers.specs.declared.fault.EndsFault.TheVariants.{FromOutside, ToOutside}

abbrev pub ends_code : Layer → EndsFault → Code
ends_code l FromOutside = code l 11 0
ends_code l ToOutside = code l 11 1

-- what a layer answers: none where the ends will do, and else the code of their fault
abbrev pub ends_refusal : {X : Type 0} → Layer → Result X EndsFault → Option Code
ends_refusal l (Ok x) = None
ends_refusal l (Err f) = Some (ends_code l f)
