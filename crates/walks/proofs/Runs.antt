-- A walk by its list of inner formats: `Runs s ms t x` is a walk from s through ms to t that costs x.
-- Lemmas go by recursion over ms; `to_runs` and `of_runs` lead from and to the definitions of specs/.
use Rattle.std.proofs.Common.{◌≡◌, ℕ, true, ◌⊎◌, List, [], ◌∷◌, ◌++◌, get_or, is_some, Some, None, Option, unwrap_or, sym, refl, ap, ◌∙◌, subst, inl, inr}
use Rattle.std.proofs.lemmas.Bool.{false≢true}
use Rattle.costs.specs.Algebra.{Algebra, Lawful}
use Rattle.walks.specs.Walk.{path, FromTo, Walk, cost, WalkCosts}

-- a list from s to t is one format, or goes on through inner formats
pub one_from : (s : ℕ) → FromTo s s (s ∷ [])
one_from s = (([], refl), ([], refl))

pub path_from : (s : ℕ) (ms : List ℕ) (t : ℕ) → FromTo s t (path s ms t)
path_from s ms t = ((ms ++ t ∷ [], refl), (s ∷ ms, refl))

pub one_or_path : (s t : ℕ) (fs : List ℕ) → FromTo s t fs → ((s ≡ t) × (fs ≡ s ∷ [])) ⊎ ((ms : List ℕ) × (fs ≡ path s ms t))
one_or_path s t fs ((gs, e), ([], f)) = let h : s ≡ t = ap (λ l. get_or l 0 0) (sym e ∙ f) in inl (h, f ∙ ap (λ k. k ∷ []) (sym h))
one_or_path s t fs ((gs, e), (k ∷ ks, f)) = let h : s ≡ k = ap (λ l. get_or l 0 0) (sym e ∙ f) in inr (ks, f ∙ ap (λ j. j ∷ (ks ++ t ∷ [])) (sym h))

pub path_of : (s t : ℕ) (fs : List ℕ) → (s ≡ t → ⊥) → FromTo s t fs → (ms : List ℕ) × (fs ≡ path s ms t)
path_of s t fs ne ends = go (one_or_path s t fs ends)
  where
    go : ((s ≡ t) × (fs ≡ s ∷ [])) ⊎ ((ms : List ℕ) × (fs ≡ path s ms t)) → (ms : List ℕ) × (fs ≡ path s ms t)
    go (inl one) = absurd (ne one.0)
    go (inr way) = way

-- a card that stands has a cost
some_of : {V : Type 0} (o : Option V) (d : V) → is_some o ≡ true → o ≡ Some (unwrap_or o d)
some_of None d h = absurd (false≢true h)
some_of (Some x) d h = refl

module _ (A : Algebra) (card : ℕ → ℕ → Option A.Value) where
  abbrev pub Runs : ℕ → List ℕ → ℕ → A.Value → Type 0
  Runs s [] t x = card s t ≡ Some x
  Runs s (m ∷ ms) t x = (a : A.Value) × (b : A.Value) × (card s m ≡ Some a) × Runs m ms t b × (x ≡ A.join a b)

module _ {A : Algebra} (L : Lawful A) (card : ℕ → ℕ → Option A.Value) where
  pub join_unit : (a : A.Value) → A.join a A.unit ≡ a
  join_unit a = L.comm a A.unit ∙ L.neutral a

  pub to_runs : (s : ℕ) (ms : List ℕ) (t : ℕ) → Walk A card (path s ms t) → Runs A card s ms t (cost A card (path s ms t))
  to_runs s [] t w = some_of (card s t) A.unit w.0 ∙ ap Some (sym (join_unit _))
  to_runs s (m ∷ ms) t w = (_, _, some_of (card s m) A.unit w.0, to_runs m ms t w.1, refl)

  -- the cost of one card more in front
  more : (s m : ℕ) (fs : List ℕ) (a b x : A.Value) → card s m ≡ Some a → cost A card (m ∷ fs) ≡ b → x ≡ A.join a b → cost A card (s ∷ m ∷ fs) ≡ x
  more s m fs a b x c e j = ap (λ o. A.join (unwrap_or o A.unit) (cost A card (m ∷ fs))) c ∙ ap (A.join a) e ∙ sym j

  pub of_runs : (s : ℕ) (ms : List ℕ) (t : ℕ) (x : A.Value) → Runs A card s ms t x → Walk A card (path s ms t) × (cost A card (path s ms t) ≡ x)
  of_runs s [] t x r = ((ap is_some r, tt), ap (λ o. A.join (unwrap_or o A.unit) A.unit) r ∙ join_unit x)
  of_runs s (m ∷ ms) t x r =
      let q = of_runs m ms t r.1 r.3 in
      ((ap is_some r.2, q.0), more s m (ms ++ t ∷ []) _ _ x r.2 q.1 r.4)

  -- what a walk between two different formats costs
  pub runs_cost : (s : ℕ) (ms : List ℕ) (t : ℕ) (x : A.Value) → Runs A card s ms t x → WalkCosts A card s t x
  runs_cost s ms t x r = let q = of_runs s ms t x r in (path s ms t, path_from s ms t, q.0, q.1)

  pub cost_runs : (s t : ℕ) (x : A.Value) → (s ≡ t → ⊥) → WalkCosts A card s t x → (ms : List ℕ) × Runs A card s ms t x
  cost_runs s t x ne (fs, ends, w, e) =
      let (ms, is) = path_of s t fs ne ends in
      (ms, subst (Runs A card s ms t) (ap (cost A card) (sym is) ∙ e) (to_runs s ms t (rw is at w)))

  pub runs_join : (s : ℕ) (ms : List ℕ) (k : ℕ) (ns : List ℕ) (t : ℕ) (a b : A.Value) → Runs A card s ms k a → Runs A card k ns t b → Runs A card s (ms ++ k ∷ ns) t (A.join a b)
  runs_join s [] k ns t a b r q = (a, b, r, q, refl)
  runs_join s (m ∷ ms) k ns t a b r q = (r.0, A.join r.1 b, r.2, runs_join m ms k ns t r.1 b r.3 q, ap (λ x. A.join x b) r.4 ∙ L.assoc r.0 r.1 b)

  pub runs_split : (s : ℕ) (ms : List ℕ) (k : ℕ) (ns : List ℕ) (t : ℕ) (x : A.Value) → Runs A card s (ms ++ k ∷ ns) t x → (a : A.Value) × (b : A.Value) × Runs A card s ms k a × Runs A card k ns t b × (x ≡ A.join a b)
  runs_split s [] k ns t x r = r
  runs_split s (m ∷ ms) k ns t x r =
      let q = runs_split m ms k ns t r.1 r.3 in
      (A.join r.0 q.0, q.1, (r.0, q.0, r.2, q.2, refl), q.3, r.4 ∙ ap (A.join r.0) q.4 ∙ sym (L.assoc r.0 q.0 q.1))
