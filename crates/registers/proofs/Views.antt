-- A view commutes with what the calls of the register below do, at pairs that it does not shut.
use Rattle.std.proofs.Common.{◌≡◌, ℕ, Bool, true, false, cond, ◌&&◌, eqb, Some, None, Option, sym, refl, ap, ◌∙◌}
use Rattle.std.proofs.Math.Bool.{and_comm}
use Rattle.std.proofs.lemmas.Bool.{and_parts, eqb-true}
use Rattle.std.specs.Cmp.{both_ways}
use Rattle.costs.specs.declared.Cost.{Ghosts as Kind}
use Rattle.registers.specs.View.{pair_below, viewed}
use Rattle.registers.specs.Fault.{after}
use Rattle.registers.specs.declared.fault.Code.{Code}
use Rattle.registers.specs.Meaning.{Meaning, meant, possible, put, standing, entered, withdrawn}
use Rattle.registers.proofs.Meanings.{same_meaning, mapped_cond, possible_parts, possible_ends, after_over}

-- a pair can have a card either way round, or neither way
possible_turned : (n a b : ℕ) → possible n a b ≡ possible n b a
possible_turned n a b = both_ways _ _ (turned a b) (turned b a)
  where
    turned : (a b : ℕ) → possible n a b ≡ true → possible n b a ≡ true
    turned a b e = let h = possible_parts n a b e in possible_ends n b a h.1 h.0 (λ same. h.2 (sym same))

possible_below : (turned : Bool) (n a b : ℕ) → possible n a b ≡ possible n (pair_below turned a b).0 (pair_below turned a b).1
possible_below true n a b = possible_turned n a b
possible_below false n a b = refl

-- the same pair above is the same pair below
same_below : (turned : Bool) (a b c d : ℕ) → (eqb a c && eqb b d) ≡ (eqb (pair_below turned a b).0 (pair_below turned c d).0 && eqb (pair_below turned a b).1 (pair_below turned c d).1)
same_below true a b c d = and_comm (eqb a c) (eqb b d)
same_below false a b c d = refl

module _ {V : Type 0} (shuts : ℕ → ℕ → Bool) (turned : Bool) (m : Meaning V) (a b : ℕ) where
  -- a pair that is shut has no card
  pub shut_standing : shuts a b ≡ true → None ≡ standing (viewed shuts turned m) a b
  shut_standing shut = by_test (possible m.size a b) refl
    where
      by_test : (t : Bool) → possible m.size a b ≡ t → None ≡ standing (viewed shuts turned m) a b
      by_test true e = rw (e, shut)
      by_test false e = rw e

  module _ (bare : shuts a b ≡ false) where
    -- any other has what stands below
    pub open_standing : standing m (pair_below turned a b).0 (pair_below turned a b).1 ≡ standing (viewed shuts turned m) a b
    open_standing = rw (bare, possible_below turned m.size a b)

    put_viewed : (o : Option V) (c d : ℕ) → put (viewed shuts turned m).cards a b o c d ≡ cond (shuts c d) None (put m.cards (pair_below turned a b).0 (pair_below turned a b).1 o (pair_below turned c d).0 (pair_below turned c d).1)
    put_viewed o c d = by_test (eqb a c && eqb b d) refl
      where
        below : Option V
        below = m.cards (pair_below turned c d).0 (pair_below turned c d).1

        by_test : (t : Bool) → (eqb a c && eqb b d) ≡ t → put (viewed shuts turned m).cards a b o c d ≡ cond (shuts c d) None (put m.cards (pair_below turned a b).0 (pair_below turned a b).1 o (pair_below turned c d).0 (pair_below turned c d).1)
        by_test true e =
            let both = and_parts (eqb a c) (eqb b d) e in
            let same : shuts c d ≡ false = rw (← eqb-true a c both.0, ← eqb-true b d both.1) bare in
            rw (← same_below turned a b c d, e, same)
        by_test false e = rw (← same_below turned a b c d, e)

    pub viewed_entered : (x : V) → entered (viewed shuts turned m) a b x ≡ viewed shuts turned (entered m (pair_below turned a b).0 (pair_below turned a b).1 x)
    viewed_entered x = same_meaning _ _ refl (put_viewed (Some x)) (λ c d. refl) (rw (← open_standing))

    pub viewed_withdrawn : withdrawn (viewed shuts turned m) a b ≡ viewed shuts turned (withdrawn m (pair_below turned a b).0 (pair_below turned a b).1)
    viewed_withdrawn = same_meaning _ _ refl (put_viewed None) (λ c d. refl) refl

pub viewed_meant : {C : Type 0} (K : Kind C) (shuts : ℕ → ℕ → Bool) (turned : Bool) (m : Meaning C) → meant K (viewed shuts turned m) ≡ viewed shuts turned (meant K m)
viewed_meant K shuts turned m = same_meaning _ _ refl (λ a b. mapped_cond K.value (shuts a b) None _) (λ a b. refl) refl

-- the calls through a view at a pair that it does not shut, from those of the register below: m is held at entry and k at exit
module _ {C : Type 0} (K : Kind C) (shuts : ℕ → ℕ → Bool) (turned : Bool) (m k : Meaning C) (a b : ℕ) (bare : shuts a b ≡ false) where
  over_step : (r : Option Code) (step step' : Meaning K.algebra.Value → Meaning K.algebra.Value) → step (viewed shuts turned (meant K m)) ≡ viewed shuts turned (step' (meant K m)) →
      meant K k ≡ after r (meant K m) (step' (meant K m)) → meant K (viewed shuts turned k) ≡ after r (meant K (viewed shuts turned m)) (step (meant K (viewed shuts turned m)))
  over_step r step step' same e =
      after_over (viewed shuts turned) r _ _ _ _ _ _ (viewed_meant K shuts turned m) (ap step (viewed_meant K shuts turned m) ∙ same) (viewed_meant K shuts turned k) e

  pub viewed_after_enter : (r : Option Code) (x : K.algebra.Value) → meant K k ≡ after r (meant K m) (entered (meant K m) (pair_below turned a b).0 (pair_below turned a b).1 x) →
      meant K (viewed shuts turned k) ≡ after r (meant K (viewed shuts turned m)) (entered (meant K (viewed shuts turned m)) a b x)
  viewed_after_enter r x e = over_step r (λ h. entered h a b x) (λ h. entered h (pair_below turned a b).0 (pair_below turned a b).1 x) (viewed_entered shuts turned (meant K m) a b bare x) e

  pub viewed_after_withdraw : (r : Option Code) → meant K k ≡ after r (meant K m) (withdrawn (meant K m) (pair_below turned a b).0 (pair_below turned a b).1) →
      meant K (viewed shuts turned k) ≡ after r (meant K (viewed shuts turned m)) (withdrawn (meant K (viewed shuts turned m)) a b)
  viewed_after_withdraw r e = over_step r (λ h. withdrawn h a b) (λ h. withdrawn h (pair_below turned a b).0 (pair_below turned a b).1) (viewed_withdrawn shuts turned (meant K m) a b bare) e
