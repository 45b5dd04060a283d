use Rattle.std.proofs.Common.{length, ap, ◌∙◌, arith, w32}
use Rattle.std.proofs.lemmas.Int.{to_z-of_z}
use Rattle.std.specs.Fmt.{signed_decimal}
use Rattle.listing.proofs.Writing.{writes_is}
use Rattle.listing.proofs.output.Output.put_signed.Goals as goal

pub returns-clause-written : goal.returns-clause-written
returns-clause-written c = writes_is (c.as_bytes.ensures.value ∙ c.format.ensures.text ∙ ap signed_decimal (to_z-of_z w32 c.args.z c.ranges.z)) c.put.ensures

pub returns-clause-short : goal.returns-clause-short
returns-clause-short c = omega (arith, c.format.ensures.fits, ap length (c.format.ensures.text ∙ ap signed_decimal (to_z-of_z w32 c.args.z c.ranges.z)))
