-- Every chain over finitely many cards, by going on from format to format: that a test passes at each of them is a test too.
-- A format that is on the way is not gone to again, so that fuel for each format is enough; where it runs out the test fails.
use Rattle.std.proofs.Common.{◌≡◌, ℕ, zero, suc, ◌<◌, Bool, true, false, not, ◌&&◌, eqb, List, [], ◌∷◌, is_some, Some, None, Option, sym, refl, subst}
use Rattle.std.specs.List.{list_any, AllByRecursion}
use Rattle.std.proofs.lemmas.Bool.{false≢true, and_parts, and_from, or_from, ne_eqb, eq-eqb, ltb-true, not_from_false}
use Rattle.registers.specs.Meaning.{possible}
use Rattle.walks.specs.Walk.{Absent, Distinct}
use Rattle.worked.proofs.CaseProofs.{Pass, passes, every_below, every_below_at}

-- f passes, where the guard holds
abbrev guarded : Bool → (Unit {0} → Bool) → Bool
guarded true f = f tt
guarded false f = true

guarded_at : (g : Bool) (f : Unit {0} → Bool) → guarded g f ≡ true → g ≡ true → f tt ≡ true
guarded_at true f h e = h
guarded_at false f h e = absurd (false≢true e)

not_among : (f : ℕ) (gs : List ℕ) → Absent f gs → list_any (eqb f) gs ≡ false
not_among f [] a = refl
not_among f (g ∷ gs) a = or_from (eqb f g) (list_any (eqb f) gs) (ne_eqb f g a.0) (not_among f gs a.1)

-- none of the formats is on the way
abbrev pub Off : List ℕ → List ℕ → Type 0
Off way fs = AllByRecursion (λ f. Absent f way) fs

off_longer : (v : ℕ) (way fs : List ℕ) → Absent v fs → Off way fs → Off (v ∷ way) fs
off_longer v way [] a o = tt
off_longer v way (f ∷ fs) a o = ((λ e. a.0 (sym e), o.0), off_longer v way fs a.1 o.1)

module _ {V : Type 0} (card : ℕ → ℕ → Option V) where
  -- fs leads on from v to t: a card for each step, and t as the last format
  abbrev pub LeadOn : ℕ → List ℕ → ℕ → Type 0
  LeadOn v [] t = v ≡ t
  LeadOn v (w ∷ fs) t = (is_some (card v w) ≡ true) × LeadOn w fs t

  -- the last format is one of them
  end_present : (v : ℕ) (fs : List ℕ) (t : ℕ) → LeadOn v fs t → Absent t (v ∷ fs) → ⊥
  end_present v [] t l a = a.0 (sym l)
  end_present v (w ∷ fs) t l a = end_present w fs t l.1 a.1

  -- a card leads on from v to w, which is not on the way
  abbrev open_to : ℕ → List ℕ → ℕ → Bool
  open_to v way w = is_some (card v w) && not (list_any (eqb w) (v ∷ way))

  module _ (n : ℕ) where
    -- the test passes at every chain from v to t that keeps off the way
    abbrev pub every_chain : ℕ → List ℕ → ℕ → ℕ → (List ℕ → Bool) → Bool
    every_chain zero way v t test = false
    every_chain (suc fuel) way v t test =
        guarded (eqb v t) (λ _. test (v ∷ []))
        && guarded (not (eqb v t)) (λ _. every_below n (λ w. guarded (open_to v way w) (λ _. every_chain fuel (v ∷ way) w t (λ fs. test (v ∷ fs)))))

    -- the same of those that go on by w
    abbrev on : ℕ → List ℕ → ℕ → ℕ → (List ℕ → Bool) → ℕ → Bool
    on fuel way v t test w = guarded (open_to v way w) (λ _. every_chain fuel (v ∷ way) w t (λ fs. test (v ∷ fs)))

    module _ (inside : Pass card (λ a b x. possible n a b)) where
      goal_inside : (o : Option V) (b : Bool) → passes (λ x. b) o ≡ true → is_some o ≡ true → b ≡ true
      goal_inside None b p h = absurd (false≢true h)
      goal_inside (Some x) b p h = p

      below : (v w : ℕ) → is_some (card v w) ≡ true → w < n
      below v w h = ltb-true w n (and_parts _ _ (and_parts _ _ (goal_inside (card v w) (possible n v w) (inside v w) h)).1).0

      -- at each chain that keeps off the way it passes
      pub every_chain_at : (fuel : ℕ) (way : List ℕ) (v t : ℕ) (test : List ℕ → Bool) → every_chain fuel way v t test ≡ true →
          (fs : List ℕ) → LeadOn v fs t → Distinct (v ∷ fs) → Off way (v ∷ fs) → test (v ∷ fs) ≡ true
      every_chain_at zero way v t test h fs l d o = absurd (false≢true h)
      every_chain_at (suc fuel) way v t test h [] l d o = guarded_at (eqb v t) (λ _. test (v ∷ [])) (and_parts _ _ h).0 (eq-eqb v t l)
      every_chain_at (suc fuel) way v t test h (w ∷ fs) l d o =
          let apart : v ≡ t → ⊥ = λ e. end_present w fs t l.1 (subst (λ x. Absent x (w ∷ fs)) e d.0) in
          let off : Off (v ∷ way) (w ∷ fs) = off_longer v way (w ∷ fs) d.0 o.1 in
          let each = guarded_at (not (eqb v t)) (λ _. every_below n (on fuel way v t test)) (and_parts _ _ h).1 (not_from_false _ (ne_eqb v t apart)) in
          let goes = guarded_at (open_to v way w) (λ _. every_chain fuel (v ∷ way) w t (λ gs. test (v ∷ gs))) (every_below_at n (on fuel way v t test) each w (below v w l.0)) (and_from _ _ l.0 (not_from_false _ (not_among w (v ∷ way) off.0))) in
          every_chain_at fuel (v ∷ way) w t (λ gs. test (v ∷ gs)) goes fs l.1 d.1 off
