-- Cards that are some of others, or some of others turned round, have no closed walk that undercuts the unit where those have none.
use Rattle.std.proofs.Common.{◌≡◌, ℕ, Bool, true, false, ◌⊎◌, List, [], ◌∷◌, is_some, Some, Option, refl, ap, ◌∙◌, inl, inr}
use Rattle.std.proofs.lemmas.Bool.{false≢true, cases_Bool}
use Rattle.costs.specs.declared.Cost.{Ghosts as Kind}
use Rattle.costs.specs.Algebra.{Algebra, Lawful}
use Rattle.registers.specs.Meaning.{Meaning, meant, standing, stands}
use Rattle.registers.specs.View.{pair_below, viewed}
use Rattle.registers.proofs.Views.{open_standing, shut_standing, viewed_meant}
use Rattle.walks.specs.Walk.{Gains}
use Rattle.walks.proofs.Runs.{Runs, to_runs, of_runs}
use Rattle.walks.proofs.Backwards.{gains_back}

module _ {A : Algebra} (L : Lawful A) (card more : ℕ → ℕ → Option A.Value) (some : (a b : ℕ) (x : A.Value) → card a b ≡ Some x → more a b ≡ Some x) where
  -- a walk over some of the cards is one over all
  runs_more : (s : ℕ) (ms : List ℕ) (t : ℕ) (x : A.Value) → Runs A card s ms t x → Runs A more s ms t x
  runs_more s [] t x r = some s t x r
  runs_more s (m ∷ ms) t x (a, b, c, r, e) = (a, b, some s m a c, runs_more m ms t b r, e)

  pub gains_more : Gains A card → Gains A more
  gains_more (h, ms, w, under) =
      let q = of_runs L more h ms h _ (runs_more h ms h _ (to_runs L card h ms h w)) in
      (h, ms, q.0, rw q.1 under)

module _ {A : Algebra} (L : Lawful A) (shuts : ℕ → ℕ → Bool) (turned : Bool) (m : Meaning A.Value) where
  -- a card that is seen stands below
  seen : (a b : ℕ) (x : A.Value) → standing (viewed shuts turned m) a b ≡ Some x → standing m (pair_below turned a b).0 (pair_below turned a b).1 ≡ Some x
  seen a b x e = go (cases_Bool (shuts a b))
    where
      go : (shuts a b ≡ true) ⊎ (shuts a b ≡ false) → standing m (pair_below turned a b).0 (pair_below turned a b).1 ≡ Some x
      go (inl shut) = absurd (false≢true (ap is_some (shut_standing shuts turned m a b shut ∙ e)))
      go (inr bare) = open_standing shuts turned m a b bare ∙ e

pub viewed_gains : {A : Algebra} (L : Lawful A) (shuts : ℕ → ℕ → Bool) (turned : Bool) (m : Meaning A.Value) → Gains A (standing (viewed shuts turned m)) → Gains A (standing m)
viewed_gains L shuts false m g = gains_more L (standing (viewed shuts false m)) (standing m) (seen L shuts false m) g
viewed_gains L shuts true m g =
    gains_back L (λ a b. standing m b a) (standing m) (λ a b. refl) (gains_more L (standing (viewed shuts true m)) (λ a b. standing m b a) (seen L shuts true m) g)

-- seen through a view, cards that never gain do not gain either
pub viewed_calm : {C : Type 0} (K : Kind C) → Lawful K.algebra → (shuts : ℕ → ℕ → Bool) (turned : Bool) (m : Meaning C) →
    (Gains K.algebra (stands K m) → ⊥) → Gains K.algebra (stands K (viewed shuts turned m)) → ⊥
viewed_calm K L shuts turned m calm g = calm (viewed_gains L shuts turned (meant K m) (rw (viewed_meant K shuts turned m) at g))
