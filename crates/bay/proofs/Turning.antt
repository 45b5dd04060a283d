-- The loop at a format h that a look found: a card leads out of h, and a chain of the least cost up to h leads back.
-- The costs back are near, one of them undercuts the unit together with its card, and the chain makes a loop.
use Rattle.std.proofs.Common.{◌≡◌, ℕ, suc, ◌-◌, ◌<◌, ◌≤◌, true, List, [], ◌∷◌, IfSome, Some, None, Option, sym, refl, ap, ◌∙◌, subst, arith, MatchOption}
use Rattle.std.specs.Option.{option_map}
use Rattle.costs.specs.declared.Cost.{Ghosts as Kind}
use Rattle.costs.specs.Algebra.{Algebra, Lawful}
use Rattle.registers.specs.Meaning.{Meaning, meant, standing, most_formats}
use Rattle.walks.specs.Walk.{path, Below, Walk, cost, Chain, Loop, WalkCosts, Least, Gains, GainsAt}
use Rattle.bay.specs.Cells.{Table, least_in}
use Rattle.walks.specs.Levels.{NoLoopBelow, Near, Looked}
use Rattle.bay.specs.Tracing.{Follows, GoalReady, Traced}
use Rattle.bay.specs.Tracing.{LeadsIn}
use Rattle.walks.specs.Levels.{upto}
use Rattle.bay.specs.Solved.{Settled, Solved, Back, Turns}
use Rattle.bay.specs.declared.elimination.Found.{Found}
use Rattle.bay.specs.declared.elimination.Found.TheVariants.{LoopAt, NoLoop}
use Rattle.walks.proofs.Runs.{Runs, to_runs, of_runs, path_from, path_of}
use Rattle.walks.proofs.Least.{at_most_under, at_most_front, least_serves}
use Rattle.walks.proofs.Cut.{distinct_front, least_is_near}
use Rattle.bay.proofs.Follow.{follows_ends}
use Rattle.bay.proofs.Sheets.{chain_leads_in}
use Rattle.walks.proofs.Restrict.{upto_runs, runs_upto, upto_calm}

-- an admitted cost is near
pub card_near : {C : Type 0} (K : Kind C) → Lawful K.algebra → (n : ℕ) (c : Option C) → n ≤ most_formats → IfSome c (λ x. K.algebra.admits (K.value x) ≡ true) → Near K.algebra n (option_map K.value c)
card_near K L n None few admitted x e = cc
card_near K L n (Some y) few admitted x e =
    let d : K.value y ≡ x = cc in
    subst (K.algebra.Within (suc n)) d (L.within_more 1 (suc n) (K.value y) (omega arith) (omega arith) (L.admitted_within (K.value y) admitted))

-- the search up to h finds no closed walk, where no look below h found one
pub solved_settled : {C : Type 0} (K : Kind C) → Lawful K.algebra → (held : Meaning C) (n h : ℕ) (cells : Table C) (r : Found) →
    Looked K.algebra (standing (meant K held)) held.size (Some h) → Solved K n (upto h (standing (meant K held))) cells r → Settled K n (upto h (standing (meant K held))) cells
solved_settled K L held n h cells (NoLoop rows) found s = s.0
solved_settled K L held n h cells (LoopAt k) (inside, gains, calm) (l, g, lower) = absurd (upto_calm L h (standing (meant K held)) calm (k, g.0, g.2, g.3))

-- where no closed walk undercuts the unit, none at any format does
pub calmed_all : (A : Algebra) (card : ℕ → ℕ → Option A.Value) (n : ℕ) → (Gains A card → ⊥) → NoLoopBelow A card n
calmed_all A card n calm k l g = calm (k, g.0, g.2, g.3)

module _ {C : Type 0} (K : Kind C) (L : Lawful K.algebra) (n : ℕ) (card : ℕ → ℕ → Option K.algebra.Value) (cells : Table C) (h : ℕ) (back : Back K n card cells h) where
  -- the table as it is traced from
  pub back_ready : GoalReady K.algebra n (upto h card) (λ v. least_in K n cells h v) h
  back_ready = record { sound = back.sound; few = back.roomy.few; inside = back.inside; calm = back.calm; least = back.least }

  pub turns_near : (v : ℕ) → v < h → Near K.algebra n (least_in K n cells h v)
  turns_near v l x e =
      let ne : v ≡ h → ⊥ = λ d. absurd (omega arith) in
      let small = back.sound.small in
      let inside = back.inside in
      L.within_more (n - 1) (suc n) x (omega arith) (omega arith)
      (least_is_near L n (upto h card) back.sound back.calm v h x (subst (Least K.algebra (upto h card) v h) e (back.least v (omega arith))))

  -- a closed walk at h goes out of h by a card and then up to h, where the least cost is at most as much
  pub turns_some : ((x : K.algebra.Value) → card h h ≡ Some x → ⊥) → GainsAt K.algebra card h → (v : ℕ) × (v < h) × Turns K n card cells h v
  turns_some apart (ms, below, walk, under) = go ms below _ (to_runs L card h ms h walk) under
    where
      go : (ms : List ℕ) → Below h ms → (x : K.algebra.Value) → Runs K.algebra card h ms h x → K.algebra.Under x K.algebra.unit → (v : ℕ) × (v < h) × Turns K n card cells h v
      go [] below x r under = absurd (apart x r)
      go (v ∷ ms) below x (a, b, out, rest, e) under =
          let l = below.0 in
          let inside = back.inside in
          let w = of_runs L (upto h card) v ms h b (runs_upto L h card v ms b l below.1 rest) in
          let s = least_serves L (WalkCosts K.algebra (upto h card) v h) _ (back.least v (omega arith)) b (path v ms h, path_from v ms h, w.0, w.1) in
          (v, l, (K.algebra.join a s.0, (a, s.0, out, s.1, refl), at_most_under L (K.algebra.join a s.0) x K.algebra.unit (at_most_front L a s.0 b x s.2 e) under))

  -- `next` leads from v to h at the cost o over the cards f
  abbrev By : (ℕ → ℕ → Option K.algebra.Value) → List ℕ → ℕ → Option K.algebra.Value → Type 0
  By f next v o = MatchOption o ((x : K.algebra.Value) → WalkCosts K.algebra f v h x → ⊥) (λ x. (fs : List ℕ) × Chain K.algebra f fs × (cost K.algebra f fs ≡ x) × Follows next h v fs)

  -- the card out of h and the chain back make a loop
  pub turns_loop : (next : List ℕ) (v : ℕ) → (v < h) × Turns K n card cells h v → ((w : ℕ) → w < n → Traced K.algebra n (upto h card) (λ v. least_in K n cells h v) h next w) →
      (ms : List ℕ) × Loop K.algebra card h (v ∷ ms) × K.algebra.Under (cost K.algebra card (path h (v ∷ ms) h)) K.algebra.unit × Follows next h v (path v ms h) × LeadsIn most_formats next h v
  turns_loop next v (l, (x, (a, b, ea, eb, ex), under)) traced =
      let inside = back.inside in
      let ne : v ≡ h → ⊥ = λ d. absurd (omega arith) in
      let by : By (upto h card) next v (least_in K n cells h v) = traced v (omega arith) in
      let (fs, chain, costs, follows) = subst (By (upto h card) next v) eb by in
      let (ms, is) = path_of v h fs ne (follows_ends next h v fs follows) in
      let walk : Walk K.algebra (upto h card) (path v ms h) = rw is at chain.0 in
      let rest = (upto_runs L h card v ms h _ (to_runs L (upto h card) v ms h walk)).2 in
      let q = of_runs L card h (v ∷ ms) h x (a, b, ea, subst (Runs K.algebra card v ms h) (ap (cost K.algebra (upto h card)) (sym is) ∙ costs) rest, ex) in
      let d = distinct_front (v ∷ ms) h [] (rw is at chain.1) in (
        ms,
        (q.0, (d.1, d.0)),
        subst (λ y. K.algebra.Under y K.algebra.unit) (sym q.1) under,
        rw is at follows,
        chain_leads_in L n (upto h card) back.sound most_formats back.roomy.few back.roomy.few next h v fs back.inside chain follows,
      )
