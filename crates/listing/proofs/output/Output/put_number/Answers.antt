use Rattle.std.proofs.Common.{length, ap, ◌∙◌, arith}
use Rattle.listing.proofs.Writing.{writes_is}
use Rattle.listing.proofs.output.Output.put_number.Goals as goal

pub returns-clause-written : goal.returns-clause-written
returns-clause-written c = writes_is (c.as_bytes.ensures.value ∙ c.format.ensures.text) c.put.ensures

pub returns-clause-short : goal.returns-clause-short
returns-clause-short c = omega (arith, c.format.ensures.fits, ap length c.format.ensures.text)
