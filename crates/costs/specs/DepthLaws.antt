-- Depth keeps the laws of a kind: those of the smaller of two numbers up to 255.
use Rattle.std.specs.Prelude.{◌≡◌, ◌≤◌}
use Rattle.std.proofs.Common.{ap, inl, inr, arith, ⊎_elim}
use Rattle.std.proofs.Math.Bridge.{le_prop}
use Rattle.std.proofs.lemmas.Bool.{cases_order}
use mathlib.Core.HLevel.{is_prop→PathP}
use Rattle.costs.specs.Algebra.{Lawful}
use Rattle.costs.specs.Depth.{depth, Bits, deepest}

-- two depths of as many bits are equal
pub same_bits : (a b : Bits) → a.count ≡ b.count → a ≡ b
same_bits a b e = λ i. record { count = e i; bound = is_prop→PathP (λ j. e j ≤ deepest) (λ j. le_prop) a.bound b.bound i }

pub depth_lawful : Lawful depth
depth_lawful = record {
  assoc = λ a b c. same_bits _ _ (omega arith);
  comm = λ a b. same_bits _ _ (omega arith);
  neutral = λ a. same_bits _ _ (omega (arith, a.bound));
  one_of = λ a b. ⊎_elim (λ e. inr (inl (same_bits a b e))) (⊎_elim (λ l. inr (inr l)) inl) (cases_order a.count b.count);
  not_both = λ a b p q. omega arith;
  not_equal = λ a b p q. omega (arith, ap (λ x. x.count) q);
  trans = λ a b c p q. omega arith;
  keeps = λ a b c p q. p (omega arith);
  unit_within = tt;
  admitted_within = λ a h. tt;
  within_more = λ m k a p q h. tt;
  within_join = λ m k a b f p q. tt;
}
