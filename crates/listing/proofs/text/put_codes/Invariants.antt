-- The codes so far of the formats after the first.
use Rattle.std.proofs.Common.{◌*◌, ◌++◌, take, codes}
use Rattle.std.specs.List.{flat_map}
use Rattle.listing.specs.Text.{fourcc_text}
use Rattle.listing.proofs.Lengths.{WritesUpTo}
use Rattle.listing.proofs.text.put_codes.Given as goal

abbrev pub invariant-loop-format : goal.invariant-loop-format
invariant-loop-format l = WritesUpTo l.initial.out l.out (flat_map (λ g. codes " " ++ fourcc_text l.codes g) (take l.format-index l.others)) (5 * l.format-index)
