use Rattle.listing.proofs.Lengths.{lines_short}
use Rattle.listing.proofs.output.Output.put_lines.Goals as goal

pub returns-then-half_lines-eq1-clause-short : goal.returns-then-half_lines-eq1-clause-short
returns-then-half_lines-eq1-clause-short c = lines_short c.args.half_lines c.put_number.ensures.short

pub returns-else-half_lines-eq1-clause-short : goal.returns-else-half_lines-eq1-clause-short
returns-else-half_lines-eq1-clause-short c = lines_short c.args.half_lines c.put_number.ensures.short
