-- Where every card is turned round, every walk leads back: from its end to its beginning, at the same cost.
use Rattle.std.proofs.Common.{◌≡◌, ℕ, ◌⊎◌, List, [], ◌∷◌, ◌++◌, Option, sym, ap, ◌∙◌, subst, inl, inr}
use Rattle.costs.specs.Algebra.{Algebra, Lawful}
use Rattle.walks.specs.Walk.{path, FromTo, Walk, cost, WalkCosts, Least, Gains}
use Rattle.walks.proofs.Runs.{Runs, to_runs, of_runs, one_from, path_from, one_or_path, runs_join}
use Rattle.walks.proofs.Least.{least_same}

module _ {A : Algebra} (L : Lawful A) (card back : ℕ → ℕ → Option A.Value) (turned : (a b : ℕ) → back a b ≡ card b a) where
  runs_back : (s : ℕ) (ms : List ℕ) (t : ℕ) (x : A.Value) → Runs A card s ms t x → (ns : List ℕ) × Runs A back t ns s x
  runs_back s [] t x r = ([], turned t s ∙ r)
  runs_back s (m ∷ ms) t x (a, b, c, r, e) =
      let (ns, q) = runs_back m ms t b r in
      (ns ++ m ∷ [], subst (Runs A back t (ns ++ m ∷ []) s) (L.comm b a ∙ sym e) (runs_join L back t ns m [] s b a q (turned m s ∙ c)))

  pub walk_back : (s : ℕ) (ms : List ℕ) (t : ℕ) → Walk A card (path s ms t) →
      (ns : List ℕ) × Walk A back (path t ns s) × (cost A back (path t ns s) ≡ cost A card (path s ms t))
  walk_back s ms t w =
      let (ns, r) = runs_back s ms t (cost A card (path s ms t)) (to_runs L card s ms t w) in
      let (v, e) = of_runs L back t ns s (cost A card (path s ms t)) r in
      (ns, v, e)

  pub gains_back : Gains A card → Gains A back
  gains_back (h, ms, w, u) = let (ns, v, e) = walk_back h ms h w in (h, ns, v, rw e u)

  pub walk_costs_back : (s t : ℕ) (x : A.Value) → WalkCosts A card s t x → WalkCosts A back t s x
  walk_costs_back s t x (fs, ends, w, e) = go (one_or_path s t fs ends)
    where
      go : ((s ≡ t) × (fs ≡ s ∷ [])) ⊎ ((ms : List ℕ) × (fs ≡ path s ms t)) → WalkCosts A back t s x
      go (inl (same, is)) = (s ∷ [], subst (λ v. FromTo v s (s ∷ [])) same (one_from s), tt, ap (cost A card) (sym is) ∙ e)
      go (inr (ms, is)) = let (ns, v, d) = walk_back s ms t (rw is at w) in (path t ns s, path_from t ns s, v, d ∙ ap (cost A card) (sym is) ∙ e)

-- the least cost there is the least cost back
pub least_back : {A : Algebra} (L : Lawful A) (card back : ℕ → ℕ → Option A.Value) → ((a b : ℕ) → back a b ≡ card b a) → (s t : ℕ) (o : Option A.Value) →
    Least A card s t o → Least A back t s o
least_back {A} L card back turned s t o =
    least_same L (WalkCosts A card s t) (WalkCosts A back t s) o (walk_costs_back L card back turned s t) (walk_costs_back L back card (λ a b. sym (turned b a)) t s)
