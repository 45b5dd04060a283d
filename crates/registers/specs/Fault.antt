-- The faults: layer, number and part of every cause, and which cause a call is refused for.
use Rattle.std.specs.Prelude.{ℕ, Bool, cond, List, [], ◌∷◌, Some, None, Ok, Err, Option, Result}
use Rattle.registers.specs.declared.fault.Layer.{Layer}
use Rattle.registers.specs.declared.fault.Layer.TheVariants.{Register}
use Rattle.registers.specs.declared.fault.Code.{Code}
use Rattle.registers.specs.declared.fault.RegisterFault.{RegisterFault}
use Rattle.registers.specs.declared.fault.RegisterFault.TheVariants.{FromOutside, ToOutside, SameEnds, CostNotAdmitted, SizeUnfit, MemoryUnfit, Sealed, NoCard, NoPlace}

-- what a caller is told: the layer that refused, the number of the cause, and the part of the call it lies in
abbrev pub code : Layer → ℕ → ℕ → Code
code l n p = record { layer = l; number = n; part = p }

abbrev pub register_code : RegisterFault → Code
register_code FromOutside = code Register 11 0
register_code ToOutside = code Register 11 1
register_code SameEnds = code Register 12 1
register_code CostNotAdmitted = code Register 13 2
register_code SizeUnfit = code Register 16 0
register_code MemoryUnfit = code Register 16 1
register_code Sealed = code Register 21 0
register_code NoCard = code Register 22 0
register_code NoPlace = code Register 23 0

-- The causes of a call in their order, each with whether it holds and with what is told of it. The call is refused for the
-- first that holds.
abbrev pub first_cause : {X : Type 0} → List (Bool × X) → Option X
first_cause [] = None
first_cause (cause ∷ causes) = cond cause.0 (Some cause.1) (first_cause causes)

-- a call's answer: none where it was granted, and else the code of its fault
abbrev pub refusal : {X : Type 0} → Result X RegisterFault → Option Code
refusal (Ok x) = None
refusal (Err f) = Some (register_code f)

-- what holds after a call: the state at entry where it was refused, else the next one
abbrev pub after : {X : Type 0} → Option Code → X → X → X
after None before next = next
after (Some c) before next = before
