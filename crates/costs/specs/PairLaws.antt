-- A pair of kinds keeps the laws of a kind, for every first kind that is strict and every second kind.
use Rattle.std.specs.Prelude.{◌≡◌, ℕ, ◌+◌, ◌≤◌, ◌&&◌, true, ◌⊎◌}
use Rattle.std.proofs.lemmas.Bool.{and_parts}
use Rattle.std.proofs.Common.{ap, inl, inr, subst, sym, ◌∙◌, ⊎_elim}
use Rattle.costs.specs.Algebra.{Algebra, Lawful}
use Rattle.costs.specs.Strict.{Strict}
use Rattle.costs.specs.Pair.{pair}

-- the first of two equal costs undercuts what the second does, and the other way round
under_left : (A : Algebra) (a b c : A.Value) → a ≡ b → A.Under b c → A.Under a c
under_left A a b c e = subst (λ x. A.Under x c) (sym e)

under_right : (A : Algebra) (a b c : A.Value) → b ≡ c → A.Under a b → A.Under a c
under_right A a b c e = subst (λ x. A.Under a x) e

pub pair_lawful : {A B : Algebra} → Lawful A → Lawful B → Strict A → Lawful (pair A B)
pair_lawful {A} {B} P Q strict = record {
  assoc = λ a b c i. (P.assoc a.0 b.0 c.0 i, Q.assoc a.1 b.1 c.1 i);
  comm = λ a b i. (P.comm a.0 b.0 i, Q.comm a.1 b.1 i);
  neutral = λ a i. (P.neutral a.0 i, Q.neutral a.1 i);
  one_of = λ a b. ⊎_elim (λ u. inl (inl u))
      (⊎_elim
      (λ e. ⊎_elim (λ u. inl (inr (e, u))) (⊎_elim (λ f. inr (inl (λ i. (e i, f i)))) (λ u. inr (inr (inr (sym e, u))))) (Q.one_of a.1 b.1))
      (λ u. inr (inr (inl u))))
      (P.one_of a.0 b.0);
  not_both = λ a b.
      ⊎_elim (λ u. ⊎_elim (λ v. P.not_both a.0 b.0 u v) (λ v. P.not_equal a.0 b.0 u (sym v.0)))
      (λ u. ⊎_elim (λ v. P.not_equal b.0 a.0 v (sym u.0)) (λ v. Q.not_both a.1 b.1 u.1 v.1));
  not_equal = λ a b. ⊎_elim (λ u e. P.not_equal a.0 b.0 u (ap (λ x. x.0) e)) (λ u e. Q.not_equal a.1 b.1 u.1 (ap (λ x. x.1) e));
  trans = λ a b c.
      ⊎_elim (λ u. ⊎_elim (λ v. inl (P.trans a.0 b.0 c.0 u v)) (λ v. inl (under_right A a.0 b.0 c.0 v.0 u)))
      (λ u. ⊎_elim (λ v. inl (under_left A a.0 b.0 c.0 u.0 v)) (λ v. inr (u.0 ∙ v.0, Q.trans a.1 b.1 c.1 u.1 v.1)));
  keeps = λ a b c never.
      ⊎_elim (P.keeps a.0 b.0 c.0 (λ u. never (inl u)))
      (λ v. ⊎_elim (λ u. P.not_equal _ _ (strict a.0 b.0 c.0 u) (sym v.0))
      (⊎_elim (λ e. Q.keeps a.1 b.1 c.1 (λ u. never (inr (sym e, u))) v.1) (λ u. never (inl u)))
      (P.one_of a.0 b.0));
  unit_within = (P.unit_within, Q.unit_within);
  admitted_within = λ a h. (P.admitted_within a.0 (and_parts _ _ h).0, Q.admitted_within a.1 (and_parts _ _ h).1);
  within_more = λ m k a f g h. (P.within_more m k a.0 f g h.0, Q.within_more m k a.1 f g h.1);
  within_join = λ m k a b f g h. (P.within_join m k a.0 b.0 f g.0 h.0, Q.within_join m k a.1 b.1 f g.1 h.1);
}
