-- Why a table is refused: layer, number and part of every cause.
use Rattle.std.specs.Prelude.{Some, None, Ok, Err, Option, Result}
use Rattle.registers.specs.Fault.{code}
use Rattle.registers.specs.House.{house_places}
use Rattle.registers.specs.declared.fault.Code.{Code}
use Rattle.registers.specs.declared.fault.Layer.TheVariants.{Register}
use Rattle.tables.specs.declared.fault.TableFault.{TableFault}
use Rattle.tables.specs.declared.fault.TableFault.TheVariants.{LengthUnfit, NumberUnfit, Loop}

abbrev pub table_code : TableFault → Code
table_code LengthUnfit = code Register 28 house_places
table_code (NumberUnfit index) = code Register 28 index
table_code Loop = code Register 29 0

-- a check's answer: none where it was granted, and else the code of its fault
abbrev pub table_refusal : {X : Type 0} → Result X TableFault → Option Code
table_refusal (Ok x) = None
table_refusal (Err f) = Some (table_code f)
