-- A route over cards that are turned round finds loops and costs as one over the cards as they stand: each walk leads back at its cost.
-- That both keep the promises of a route is taken from their answers; nothing of how a route is made is looked at.
use Rattle.std.proofs.Common.{◌≡◌, ℕ, suc, ◌⊎◌, List, [], ◌∷◌, length, get_or, is_some, None, Option, sym, ap, ◌∙◌, inl, inr, arith, refl, false, true}
use Rattle.std.proofs.lemmas.Bool.{false≢true}
use Rattle.costs.specs.declared.Cost.{Ghosts as Kind}
use Rattle.costs.specs.Algebra.{Algebra, Lawful}
use Rattle.registers.specs.Meaning.{standing}
use Rattle.registers.proofs.Views.{open_standing}
use Rattle.bay.specs.Sheet.{row_of}
use Rattle.walks.specs.Walk.{FromTo, Walk, cost, WalkCosts, Gains}
use Rattle.walks.proofs.Backwards.{walk_costs_back, gains_back}
use Rattle.walks.proofs.Least.{at_most_both}
use Rattle.bay.specs.Faults.{refused}
use Rattle.bay.specs.Routes.{LoopIn, HasNoChain, HasLeastChain}
use Rattle.bay.specs.Routing.{FoundLoop, Granted, RouteAnswer}
use Rattle.bay.specs.Plain.{Plain}
use Rattle.bay.specs.Reversal.{Alike, FromOutputs, Loops, Opposite, ReversedIsReversal, RouteMade}
use Rattle.bay.specs.declared.legs.Ends.{Ends}
use Rattle.bay.proofs.Granted.{none≢some}

-- a loop that was written gains
pub looped_gains : (A : Algebra) (card : ℕ → ℕ → Option A.Value) (row : List ℕ) → LoopIn A card row → Gains A card
looped_gains A card row l = (l.start, l.inner, l.loop.0, l.gains)

module _ {A : Algebra} (L : Lawful A) where
  -- what is written for a leg over the cards, and for one that leads the other way over the cards turned round
  module _ (card back : ℕ → ℕ → Option A.Value) (turned : (a b : ℕ) → back a b ≡ card b a) (leg other : Ends) (opposite : Opposite leg other)
      (row row' : List ℕ) (x y : A.Value) where
    abbrev Found : (ℕ → ℕ → Option A.Value) → Ends → List ℕ → A.Value → Type 0
    Found card leg row x = HasNoChain A card leg row x ⊎ HasLeastChain A card leg row x

    there : (fs : List ℕ) → FromTo leg.from leg.to fs → Walk A card fs → WalkCosts A back other.from other.to (cost A card fs)
    there fs ends w = rw (opposite.0, opposite.1) (walk_costs_back L card back turned leg.from leg.to (cost A card fs) (fs, ends, w, refl))

    again : (fs : List ℕ) → FromTo other.from other.to fs → Walk A back fs → WalkCosts A card leg.from leg.to (cost A back fs)
    again fs ends w = rw (sym opposite.0, sym opposite.1) (walk_costs_back L back card (λ a b. sym (turned b a)) other.from other.to (cost A back fs) (fs, ends, w, refl))

    walk_some : (f : ℕ → ℕ → Option A.Value) (fs : List ℕ) → Walk A f fs → row_of fs ≡ row_of [] → ⊥
    walk_some f [] w e = w
    walk_some f (a ∷ fs) w e = let n : suc (length fs) ≡ 0 = ap (λ r. get_or r 0 0) e in absurd (omega (arith, n))

    leg_alike : Found card leg row x → Found back other row' y → Alike (row ≡ row_of []) (row' ≡ row_of []) × (x ≡ y)
    leg_alike (inl p) (inl q) = ((λ _. q.row_is, λ _. p.row_is), p.costs ∙ sym q.costs)
    leg_alike (inl p) (inr q) = let (fs, ends, w, e) = again q.formats q.from_to q.chain.0 in absurd (p.no_walk fs ends w)
    leg_alike (inr p) (inl q) = let (fs, ends, w, e) = there p.formats p.from_to p.chain.0 in absurd (q.no_walk fs ends w)
    leg_alike (inr p) (inr q) = (
      (λ e. absurd (walk_some card p.formats p.chain.0 (sym p.row_is ∙ e)), λ e. absurd (walk_some back q.formats q.chain.0 (sym q.row_is ∙ e))),
      at_most_both L x y
          (λ u. let (fs, ends, w, e) = again q.formats q.from_to q.chain.0 in p.least fs ends w (rw (e, sym q.costs) u))
          (λ u. let (fs, ends, w, e) = there p.formats p.from_to p.chain.0 in q.least fs ends w (rw (e, sym p.costs) u)),
    )

module _ {C : Type 0} (K : Kind C) (L : Lawful K.algebra) where
  -- such a route finds a loop or is granted
  abbrev LoopMade : {p : Plain K} → RouteMade p → Type 0
  LoopMade {p} r = FoundLoop p r.legs r.noted r.before r.after r.answer

  abbrev ChainsMade : {p : Plain K} → RouteMade p → Type 0
  ChainsMade {p} r = Granted p r.legs r.noted r.before r.after r.answer

  made_way : {p : Plain K} (r : RouteMade p) → LoopMade r ⊎ ChainsMade r
  made_way {p} r = go r.answered
    where
      go : RouteAnswer p r.legs r.noted r.before r.after r.answer → LoopMade r ⊎ ChainsMade r
      go (inl away) = absurd (false≢true (ap is_some (sym r.roomy ∙ away.holds)))
      go (inr way) = way

  -- a loop that one finds gains over the cards of the other
  module _ (p q : Plain K) (turned : (a b : ℕ) → standing q.register a b ≡ standing p.register b a) (one : RouteMade p) (other : RouteMade q) where
    looped_too : Loops one → Loops other
    looped_too e = go (made_way one) (made_way other)
      where
        go : LoopMade one ⊎ ChainsMade one → LoopMade other ⊎ ChainsMade other → Loops other
        go (inr h) way = absurd (let z : ◌≡◌ {A = ℕ} 0 1 = cc (h.answers, e) in omega arith)
        go (inl h) (inl k) = k.answers
        go (inl h) (inr k) = absurd (k.no_loop (gains_back L (standing p.register) (standing q.register) turned (looped_gains K.algebra (standing p.register) _ h.loop)))

    -- granted as one of them is, so is the other
    granted_too : refused one.answer ≡ None → ChainsMade one × ChainsMade other
    granted_too e = go (made_way one) (made_way other)
      where
        go : LoopMade one ⊎ ChainsMade one → LoopMade other ⊎ ChainsMade other → ChainsMade one × ChainsMade other
        go (inl h) way = absurd (none≢some (sym e ∙ ap refused h.answers))
        go (inr h) (inl k) =
            absurd (h.no_loop (gains_back L (standing q.register) (standing p.register) (λ a b. sym (turned b a)) (looped_gains K.algebra (standing q.register) _ k.loop)))
        go (inr h) (inr k) = (h, k)

  pub from_outputs : FromOutputs K
  from_outputs p q reversal one other = record {
    loops = (looped_too p q turned one other, looped_too q p (λ a b. sym (turned b a)) other one);
    legs = λ e d j k l m opposite.
        let (h, h') = granted_too p q turned one other e in
        leg_alike L (standing p.register) (standing q.register) turned _ _ opposite _ _ _ _ ((h.routed d).each j l) ((h'.routed d).each k m);
  }
    where
      turned : (a b : ℕ) → standing q.register a b ≡ standing p.register b a
      turned a b = reversal a b ∙ sym (open_standing (λ c d. false) true p.register a b refl)

-- a bay over a reversed register is the reversal of one over the register below
pub reversed_is_reversal : {C : Type 0} (K : Kind C) → ReversedIsReversal K
reversed_is_reversal K m legs others a b = refl
