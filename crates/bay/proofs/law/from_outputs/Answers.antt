use Rattle.bay.proofs.BothWays.{from_outputs, reversed_is_reversal}
use Rattle.bay.proofs.law.from_outputs.Goals as goal

pub returns : goal.returns
returns g c = record { reversed = reversed_is_reversal g.C.Cost; outputs = from_outputs g.C.Cost g.met.C.Cost.lawful }
