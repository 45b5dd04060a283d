use Rattle.std.proofs.Common.{◌<◌, ◌^◌, refl, arith}
use Rattle.std.proofs.lemmas.Bool.{le-ltb}
use Rattle.std.proofs.Math.Nat.{div-eq_of_lt, pow-le-pow_right}
use Rattle.registers.proofs.bar.has_bit.Goals as goal

-- a bit beyond the 64 is that of a larger power than the number
pub returns-else-place : goal.returns-else-place
returns-else-place c =
    let larger = pow-le-pow_right {n = 2} (omega arith) c.if-place.false in
    let below : c.args.bits < 2 ^ c.args.place = omega arith in
    rw (div-eq_of_lt below, le-ltb c.args.place 64 c.if-place.false) refl
