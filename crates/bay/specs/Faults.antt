-- The faults of a bay: layer, number and part of every cause.
use Rattle.std.specs.Prelude.{Some, None, Ok, Err, Option, Result}
use Rattle.registers.specs.declared.fault.Code.{Code}
use Rattle.registers.specs.declared.fault.Layer.TheVariants.{Bay}
use Rattle.registers.specs.declared.fault.RegisterFault.{RegisterFault}
use Rattle.registers.specs.Fault.{code, register_code}
use Rattle.bay.specs.declared.fault.BayFault.{BayFault}
use Rattle.bay.specs.declared.fault.BayFault.TheVariants.{Register, FromOutside, ToOutside, SecondOutside, NoLeg, TableShort, CostsShort, ChainsShort, AnswersShort, LegsFull, NoLegs, Loop, NoSplit}

abbrev pub bay_code : BayFault → Code
bay_code (Register f) = register_code f
bay_code FromOutside = code Bay 11 0
bay_code ToOutside = code Bay 11 1
bay_code SecondOutside = code Bay 11 2
bay_code NoLeg = code Bay 14 0
bay_code TableShort = code Bay 15 0
bay_code CostsShort = code Bay 15 1
bay_code ChainsShort = code Bay 15 2
bay_code AnswersShort = code Bay 15 3
bay_code LegsFull = code Bay 24 0
bay_code NoLegs = code Bay 25 0
bay_code Loop = code Bay 26 0
bay_code NoSplit = code Bay 27 0

-- a register's fault as the bay's
abbrev pub carried : RegisterFault → BayFault
carried f = Register f

-- a call's answer: none where it was granted, and else the code of its fault
abbrev pub refused : {X : Type 0} → Result X BayFault → Option Code
refused (Ok x) = None
refused (Err f) = Some (bay_code f)
