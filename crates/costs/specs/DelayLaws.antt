-- Delay keeps the laws of a kind: those of the sum and the order of whole numbers.
use Rattle.std.specs.Prelude.{◌≡◌, ℕ, ◌+◌, ◌*◌, ◌≤◌, ◌⊎◌, ℤ, pos, negsuc, ◌+ℤ◌, ◌<ℤ◌, unsigned_abs}
use Rattle.std.proofs.Common.{inl, inr, arith}
use Rattle.std.proofs.Math.IntN.{+ℤ_assoc, +ℤ_comm, +ℤ_idl}
use Rattle.std.proofs.lemmas.Int.{ints, by_lt_z}
use Rattle.std.proofs.lemmas.Bool.{leb-true}
use Rattle.std.proofs.lemmas.Bool.Decides.{nat_tests}
use Rattle.costs.specs.Algebra.{Lawful}
use Rattle.costs.specs.Delay.{delay, most_half_lines}
use Rattle.costs.specs.Strict.{Strict}

one_of : (a b : ℤ) → (a <ℤ b) ⊎ ((a ≡ b) ⊎ (b <ℤ a))
one_of a b = by_lt_z a b inl (λ up. inr (by_lt_z b a inr (λ down. inl (omega (arith, ints)))))

-- a sum lies no further from 0 than its parts together
unsigned_abs_sum : (a b : ℤ) → unsigned_abs (a +ℤ b) ≤ unsigned_abs a + unsigned_abs b
unsigned_abs_sum (pos a) (pos b) = omega arith
unsigned_abs_sum (pos a) (negsuc b) = grind (arith, nat_tests)
unsigned_abs_sum (negsuc a) (pos b) = grind (arith, nat_tests)
unsigned_abs_sum (negsuc a) (negsuc b) = omega arith

within_join : (m k : ℕ) (a b : ℤ) → unsigned_abs a ≤ m * most_half_lines → unsigned_abs b ≤ k * most_half_lines → unsigned_abs (a +ℤ b) ≤ (m + k) * most_half_lines
within_join m k a b p q = omega (arith, unsigned_abs_sum a b)

pub delay_lawful : Lawful delay
delay_lawful = record {
  assoc = +ℤ_assoc;
  comm = +ℤ_comm;
  neutral = +ℤ_idl;
  one_of = one_of;
  not_both = λ a b p q. omega (arith, ints);
  not_equal = λ a b p q. omega (arith, ints);
  trans = λ a b c p q. omega (arith, ints);
  keeps = λ a b c p q. p (omega (arith, ints));
  unit_within = omega arith;
  admitted_within = λ a h. omega (arith, leb-true (unsigned_abs a) most_half_lines h);
  within_more = λ m k a p q h. omega arith;
  within_join = λ m k a b f p q. within_join m k a b p q;
}

pub delay_strict : Strict delay
delay_strict a b c u = omega (arith, ints)
