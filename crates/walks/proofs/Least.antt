-- Costs in their order, and the least cost with a property.
-- A least cost is known by two facts: what there is has the property, and for each y with the property one is there, at most y.
use Rattle.std.proofs.Common.{◌≡◌, ◌⊎◌, is_some, Some, None, Option, sym, refl, ap, ◌∙◌, subst, subst₂, inl, inr}
use Rattle.std.proofs.lemmas.Bool.{false≢true}
use Rattle.costs.specs.Algebra.{Algebra, Lawful}
use Rattle.walks.specs.Walk.{LeastOf}
use Rattle.walks.specs.Theorems.{Joined, Either}

-- costs that cannot differ are equal
pub equal_unless : {A : Algebra} → Lawful A → (a b : A.Value) → ((a ≡ b → ⊥) → ⊥) → a ≡ b
equal_unless {A} L a b h = elim (L.one_of a b) [
  | inl u ↦ absurd (h (L.not_equal a b u))
  | inr (inl e) ↦ e
  | inr (inr u) ↦ absurd (h (λ e. L.not_equal b a u (sym e)))
]

module _ (A : Algebra) where
  abbrev pub AtMost : A.Value → A.Value → Type 0
  AtMost a b = A.Under b a → ⊥

  -- o has a cost that is at most y
  abbrev pub Serves : Option A.Value → A.Value → Type 0
  Serves o y = (z : A.Value) × (o ≡ Some z) × AtMost z y

  -- some cost with P is at most y
  abbrev pub Covers : (A.Value → Type 0) → A.Value → Type 0
  Covers P y = (z : A.Value) × P z × AtMost z y

  -- x is a cost with P, or the combination of a cost with Q and one with R
  abbrev pub OrJoin : (A.Value → Type 0) → (A.Value → Type 0) → (A.Value → Type 0) → A.Value → Type 0
  OrJoin P Q R x = P x ⊎ ((a : A.Value) × (b : A.Value) × Q a × R b × (x ≡ A.join a b))

module _ {A : Algebra} (L : Lawful A) where
  pub at_most_self : (a : A.Value) → AtMost A a a
  at_most_self a u = L.not_equal a a u refl

  pub at_most_trans : (a b c : A.Value) → AtMost A a b → AtMost A b c → AtMost A a c
  at_most_trans a b c p q u =
      elim (L.one_of a b) [ inl v ↦ q (L.trans c a b u v) | inr (inl e) ↦ q (subst (λ x. A.Under c x) e u) | inr (inr v) ↦ p v ]

  pub at_most_both : (a b : A.Value) → AtMost A a b → AtMost A b a → a ≡ b
  at_most_both a b p q = elim (L.one_of a b) [ inl v ↦ absurd (q v) | inr (inl e) ↦ e | inr (inr v) ↦ absurd (p v) ]

  pub under_at_most : (a b : A.Value) → A.Under a b → AtMost A a b
  under_at_most a b u v = L.not_both a b u v

  -- what is at most a cost undercuts all that this undercuts
  pub at_most_under : (a b c : A.Value) → AtMost A a b → A.Under b c → A.Under a c
  at_most_under a b c p u =
      elim (L.one_of a c) [ inl v ↦ v | inr (inl e) ↦ absurd (p (subst (A.Under b) (sym e) u)) | inr (inr v) ↦ absurd (p (L.trans b c a u v)) ]

  pub at_most_joined : (a b c d : A.Value) → AtMost A a b → AtMost A c d → AtMost A (A.join a c) (A.join b d)
  at_most_joined a b c d p q = at_most_trans _ (A.join b c) _ (L.keeps a b c p) (subst₂ (λ x y. AtMost A x y) (L.comm c b) (L.comm d b) (L.keeps c d b q))

  -- the same cost in front of both
  pub at_most_front : (c y z x : A.Value) → AtMost A y z → x ≡ A.join c z → AtMost A (A.join c y) x
  at_most_front c y z x p e = subst (λ v. AtMost A (A.join c y) v) (sym e) (at_most_joined c c y z (at_most_self c) p)

  -- a part that does not undercut the unit is dropped
  pub drop_front : (a b y x : A.Value) → AtMost A A.unit a → y ≡ A.join a b → AtMost A y x → AtMost A b x
  drop_front a b y x p e = at_most_trans b y x (subst₂ (λ u v. AtMost A u v) (L.neutral b) (sym e) (L.keeps A.unit a b p))

  pub drop_back : (a b y x : A.Value) → AtMost A A.unit b → y ≡ A.join a b → AtMost A y x → AtMost A a x
  drop_back a b y x p e = drop_front b a y x p (e ∙ L.comm a b)

  pub least_has : (P : A.Value → Type 0) (o : Option A.Value) (x : A.Value) → LeastOf A P o → o ≡ Some x → P x
  least_has P None x l e = absurd (false≢true (ap is_some e))
  least_has P (Some y) x l e = let d : y ≡ x = cc in subst P d l.0

  pub least_serves : (P : A.Value → Type 0) (o : Option A.Value) → LeastOf A P o → (y : A.Value) → P y → Serves A o y
  least_serves P None l y p = absurd (l y p)
  least_serves P (Some x) l y p = (x, refl, l.1 y p)

  pub least_made : (P : A.Value → Type 0) (o : Option A.Value) → ((x : A.Value) → o ≡ Some x → P x) → ((y : A.Value) → P y → Serves A o y) → LeastOf A P o
  least_made P None has serves = λ x p. false≢true (ap is_some (serves x p).1)
  least_made P (Some x) has serves = (has x refl, λ y p. let s = serves y p in let e : s.0 ≡ x = cc s.1 in subst (λ z. AtMost A z y) e s.2)

  -- the least of P is the least of Q, where each cost with P has Q, and each with Q is covered by one with P
  pub least_cover : (P Q : A.Value → Type 0) (o : Option A.Value) → ((x : A.Value) → P x → Q x) → ((y : A.Value) → Q y → Covers A P y) → LeastOf A P o → LeastOf A Q o
  least_cover P Q o f g l = least_made Q o (λ x e. f x (least_has P o x l e)) (λ y q. serve (g y q))
    where
      serve : {y : A.Value} → Covers A P y → Serves A o y
      serve {y} c = let s = least_serves P o l c.0 c.1 in (s.0, s.1, at_most_trans s.0 c.0 y s.2 c.2)

  pub least_same : (P Q : A.Value → Type 0) (o : Option A.Value) → ((x : A.Value) → P x → Q x) → ((x : A.Value) → Q x → P x) → LeastOf A P o → LeastOf A Q o
  least_same P Q o f g = least_cover P Q o f (λ y q. (y, g y q, at_most_self y))

  pub least_unique : (P : A.Value → Type 0) (o o' : Option A.Value) → LeastOf A P o → LeastOf A P o' → o ≡ o'
  least_unique P None None l m = refl
  least_unique P None (Some x) l m = absurd (l x m.0)
  least_unique P (Some x) None l m = absurd (m x l.0)
  least_unique P (Some x) (Some y) l m = ap Some (at_most_both x y (l.1 y m.0) (m.1 x l.0))

  -- the least of three kinds of costs gives the least of their combination
  pub least_either : (P Q R : A.Value → Type 0) (o p q r : Option A.Value) → LeastOf A P o → LeastOf A Q p → LeastOf A R q → LeastOf A (Either A o p q) r → LeastOf A (OrJoin A P Q R) r
  least_either P Q R o p q r lo lp lq = least_cover (Either A o p q) (OrJoin A P Q R) r into cover
    where
      into : (x : A.Value) → Either A o p q x → OrJoin A P Q R x
      into x (inl e) = inl (least_has P o x lo e)
      into x (inr j) = inr (j.0, j.1, least_has Q p j.0 lp j.2, least_has R q j.1 lq j.3, j.4)

      cover : (y : A.Value) → OrJoin A P Q R y → Covers A (Either A o p q) y
      cover y (inl h) = let s = least_serves P o lo y h in (s.0, inl s.1, s.2)
      cover y (inr j) =
          let s = least_serves Q p lp j.0 j.2 in
          let t = least_serves R q lq j.1 j.3 in
          (A.join s.0 t.0, inr (s.0, t.0, s.1, t.1, refl), subst (λ z. AtMost A (A.join s.0 t.0) z) (sym j.4) (at_most_joined s.0 j.0 t.0 j.1 s.2 t.2))

  -- the least of `Either` by cases
  pub none_joined : (p q : Option A.Value) (x : A.Value) → (p ≡ None) ⊎ (q ≡ None) → Joined A p q x → ⊥
  none_joined p q x (inl e) j = false≢true (ap is_some (sym e ∙ j.2))
  none_joined p q x (inr e) j = false≢true (ap is_some (sym e ∙ j.3))

  pub either_none : (o p q : Option A.Value) → (p ≡ None) ⊎ (q ≡ None) → LeastOf A (Either A o p q) o
  either_none o p q none = least_made (Either A o p q) o (λ x e. inl e) serve
    where
      serve : (y : A.Value) → Either A o p q y → Serves A o y
      serve y (inl e) = (y, e, at_most_self y)
      serve y (inr j) = absurd (none_joined p q y none j)

  pub joined_is : (p q : Option A.Value) (a b x : A.Value) → p ≡ Some a → q ≡ Some b → Joined A p q x → A.join a b ≡ x
  joined_is p q a b x ep eq j =
      let d : a ≡ j.0 = cc j.2 in
      let e : b ≡ j.1 = cc j.3 in
      cc j.4

  -- a candidate is the least, where it is at most what was there
  better : (o p q : Option A.Value) (a b : A.Value) → p ≡ Some a → q ≡ Some b → ((z : A.Value) → o ≡ Some z → AtMost A (A.join a b) z) → LeastOf A (Either A o p q) (Some (A.join a b))
  better o p q a b ep eq h = (inr (a, b, ep, eq, refl), below)
    where
      below : (y : A.Value) → Either A o p q y → AtMost A (A.join a b) y
      below y (inl e) = h y e
      below y (inr j) = subst (λ z. AtMost A (A.join a b) z) (joined_is p q a b y ep eq j) (at_most_self (A.join a b))

  pub either_new : (o p q : Option A.Value) (a b : A.Value) → o ≡ None → p ≡ Some a → q ≡ Some b → LeastOf A (Either A o p q) (Some (A.join a b))
  either_new o p q a b eo ep eq = better o p q a b ep eq (λ z e. absurd (false≢true (ap is_some (sym eo ∙ e))))

  pub either_better : (o p q : Option A.Value) (z a b : A.Value) → o ≡ Some z → p ≡ Some a → q ≡ Some b → A.Under (A.join a b) z → LeastOf A (Either A o p q) (Some (A.join a b))
  either_better o p q z a b eo ep eq u = better o p q a b ep eq (λ y e. let d : z ≡ y = cc in subst (λ v. AtMost A (A.join a b) v) d (under_at_most (A.join a b) z u))

  pub either_kept : (o p q : Option A.Value) (z a b : A.Value) → o ≡ Some z → p ≡ Some a → q ≡ Some b → (A.Under (A.join a b) z → ⊥) → LeastOf A (Either A o p q) (Some z)
  either_kept o p q z a b eo ep eq h = (inl eo, above)
    where
      above : (y : A.Value) → Either A o p q y → AtMost A z y
      above y (inl e) = let d : z ≡ y = cc in subst (λ v. AtMost A z v) d (at_most_self z)
      above y (inr j) = subst (λ v. AtMost A z v) (joined_is p q a b y ep eq j) h
