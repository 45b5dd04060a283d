-- How the code of a fault is printed.
use Rattle.std.specs.Prelude.{ℕ, List, ◌++◌, codes}
use Rattle.std.specs.Fmt.{decimal}
use Rattle.registers.specs.declared.fault.Code.{Code}
use Rattle.registers.specs.declared.fault.Layer.{Layer}
use Rattle.registers.specs.declared.fault.Layer.TheVariants.{Ticket, Bay, Register}

-- the word for a layer
abbrev pub layer_text : Layer → List ℕ
layer_text Ticket = codes "ticket"
layer_text Bay = codes "bay"
layer_text Register = codes "register"

-- as in "register 16.1"
abbrev pub code_text : Code → List ℕ
code_text c = layer_text c.layer ++ codes " " ++ decimal c.number ++ codes "." ++ decimal c.part
