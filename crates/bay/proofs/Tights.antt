-- Tight cards of a table of least costs: the costs on the way to the goal are near, so a combination with a card is exact,
-- and a test of equal meaning tells whether the card is tight.
use Rattle.std.proofs.Common.{◌≡◌, ℕ, is_some, ◌+◌, ◌-◌, ◌<◌, ◌≤◌, Bool, true, false, not, ltb, ◌⊎◌, Some, None, Option, Decides, sym, refl, ap, ◌∙◌, subst, inl, inr, arith}
use Rattle.std.proofs.Math.Logic.{∥∥₁_elim}
use Rattle.std.proofs.lemmas.Bool.{cases_lt, both_ways, lt-ltb, le-ltb, cond-true, cond-false}
use Rattle.costs.specs.Algebra.{Algebra, Lawful, reach}
use Rattle.walks.specs.Walk.{Least, WalkCosts}
use Rattle.bay.specs.Tracing.{to_goal, GoalReady, TightIn}
use Rattle.walks.proofs.Least.{equal_unless, least_unique}
use Rattle.walks.proofs.Runs.{cost_runs}
use Rattle.walks.proofs.Loops.{runs_inside}
use Rattle.walks.proofs.Cut.{least_is_near, unit_is_least}

-- two costs are equal just where neither undercuts the other
pub same_decided : {A : Algebra} → Lawful A → (a b : A.Value) (r s : Bool) → (r ≡ false → A.Under a b → ⊥) →
    (s ≡ true → A.Under b a) → (s ≡ false → A.Under b a → ⊥) → r ≡ false → Decides (not s) (a ≡ b)
same_decided {A} L a b r false rn sy sn e = (λ _. go (L.one_of a b), λ _. refl)
  where
    go : A.Under a b ⊎ ((a ≡ b) ⊎ A.Under b a) → a ≡ b
    go (inl u) = absurd (rn e u)
    go (inr (inl d)) = d
    go (inr (inr u)) = absurd (sn refl u)
same_decided {A} L a b r true rn sy sn e = (λ h. absurd (both_ways false refl h), λ d. absurd (L.not_equal b a (sy refl) (sym d)))

module _ {A : Algebra} (L : Lawful A) (n : ℕ) (card : ℕ → ℕ → Option A.Value) (dist : ℕ → Option A.Value) (goal : ℕ) where
  pub to_goal_inside : (v : ℕ) → v < n → to_goal A n card dist goal v ≡ dist v
  to_goal_inside v l = cond-true (ltb v n) _ _ (lt-ltb v n l)

  pub to_goal_outside : (v : ℕ) → n ≤ v → to_goal A n card dist goal v ≡ None
  to_goal_outside v l = cond-false (ltb v n) _ _ (le-ltb v n l)

  pub to_goal_goal : GoalReady A n card dist goal → to_goal A n card dist goal goal ≡ Some A.unit
  to_goal_goal ready =
      to_goal_inside goal ready.inside ∙
      least_unique L (WalkCosts A card goal goal) (dist goal) (Some A.unit) (ready.least goal ready.inside) (unit_is_least L card ready.calm goal)

  module _ (ready : GoalReady A n card dist goal) where
    pub to_goal_least : (v : ℕ) → Least A card v goal (to_goal A n card dist goal v)
    to_goal_least v = go (cases_lt v n)
      where
        go : (v < n) ⊎ (n ≤ v) → Least A card v goal (to_goal A n card dist goal v)
        go (inl l) = subst (λ o. Least A card v goal o) (sym (to_goal_inside v l)) (ready.least v l)
        go (inr g) =
            let inside = ready.inside in
            subst (λ o. Least A card v goal o) (sym (to_goal_outside v g))
            (λ x w. let (ms, r) = cost_runs L card v goal x (λ e. absurd (omega arith)) w in omega (arith, (runs_inside L card n ready.sound v ms goal x r).0))

    pub to_goal_near : (v : ℕ) (x : A.Value) → to_goal A n card dist goal v ≡ Some x → A.Within (n - 1) x
    to_goal_near v x e =
        least_is_near L n card ready.sound ready.calm v goal x
        (subst (λ o. Least A card v goal o) e (to_goal_least v))

  -- a tight card stands, and what it leads to has a cost to the goal
  pub tight_costs : (v w : ℕ) → w < n → TightIn A n card dist goal v w → (is_some (card v w) ≡ true) × (is_some (dist w) ≡ true)
  tight_costs v w l (c, x, p, q, s) = (ap is_some p, ap is_some (sym (to_goal_inside w l) ∙ q))

  -- the test of a card by the meaning of its combination with the rest of the way
  pub tight_decided : ∥ GoalReady A n card dist goal ∥₁ → (v w : ℕ) (c x z j : A.Value) (r : Bool) → card v w ≡ Some c → Some x ≡ to_goal A n card dist goal w →
      Some z ≡ to_goal A n card dist goal v → ((m k : ℕ) → m + k ≤ reach → A.Within m c → A.Within k x → j ≡ A.join c x) → Decides r (j ≡ z) →
      Decides r (TightIn A n card dist goal v w)
  tight_decided ready v w c x z j r ec ex ez exact d =
      let is = equal_unless L j (A.join c x) (λ ne. ∥∥₁_elim ready (λ a b. absurd a) (λ r.
      ne (exact 1 (n - 1) (omega (arith, r.sound.small)) (L.admitted_within c (r.sound.admitted v w c ec)) (to_goal_near r w x (sym ex))))) in
      (λ h. (c, x, ec, sym ex, sym ez ∙ ap Some (sym (d.0 h) ∙ is)), λ t. d.1 (is ∙ back t))
    where
      back : TightIn A n card dist goal v w → A.join c x ≡ z
      back (c', x', p, q, s) =
          let a : c ≡ c' = cc in
          let b : x ≡ x' = cc in
          let f : A.join c' x' ≡ z = cc in
          ap (λ y. A.join y x) a ∙ ap (A.join c') b ∙ f
