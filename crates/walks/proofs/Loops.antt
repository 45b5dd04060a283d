-- The looks: a look at h finds a closed walk exactly where one gains, and no closed walk escapes all of them.
-- `no_low_loop` is the statement for walks with inner formats below h, which needs no more than the looks below h.
use Rattle.std.proofs.Common.{◌≡◌, ℕ, zero, suc, ◌<◌, ◌≤◌, ◌⊎◌, List, [], ◌∷◌, Option, sym, refl, ◌∙◌, subst, inl, inr, arith}
use Rattle.std.proofs.lemmas.Bool.{cases_order}
use Rattle.costs.specs.Algebra.{Algebra, Lawful}
use Rattle.walks.specs.Walk.{Below, LowLeast, LowWalkCosts, GainsAt}
use Rattle.walks.specs.Theorems.{Sound, LookHits, LookFinds, NoHiddenLoop}
use Rattle.walks.proofs.Runs.{Runs, to_runs}
use Rattle.walks.proofs.Least.{AtMost, Covers, at_most_trans, at_most_joined, drop_front, least_serves}
use Rattle.walks.proofs.Fold.{Low, Calm, Passes, to_low, of_low, calm_at, low_mono, low_join, pass}

module _ {A : Algebra} (L : Lawful A) (card : ℕ → ℕ → Option A.Value) where
  -- all formats of a walk are below n
  pub runs_inside : (n : ℕ) → Sound A n card → (s : ℕ) (ms : List ℕ) (t : ℕ) (x : A.Value) → Runs A card s ms t x → (s < n) × Below n ms × (t < n)
  runs_inside n sound s [] t x r = let i = sound.inside s t x r in (i.0, tt, i.1)
  runs_inside n sound s (m ∷ ms) t x r = let i = runs_inside n sound m ms t r.1 r.3 in ((sound.inside s m r.0 r.2).0, (i.0, i.1), i.2)

  -- Where the looks below h find nothing, no closed walk over formats below h gains: it is at the highest format h, or it
  -- passes there, and its two halves the other way round are a closed walk at h.
  pub no_low_loop : (h : ℕ) → ((k : ℕ) → k < h → GainsAt A card k → ⊥) → (j : ℕ) → j < h → (x : A.Value) → Low A card h j j x → AtMost A A.unit x
  no_low_loop zero calm j l x w = absurd (omega arith)
  no_low_loop (suc h) calm j l x w =
      go (cases_order j h) (no_low_loop h (λ k e. calm k (omega arith))) (pass L card h here j w.0 j x w.1 w.2)
    where
      here : Calm A card h
      here = calm_at L card h (calm h (omega arith))

      go : (j ≡ h) ⊎ ((j < h) ⊎ (h < j)) → ((i : ℕ) → i < h → (y : A.Value) → Low A card h i i y → AtMost A A.unit y) → Covers A (Passes L card h j j) x → AtMost A A.unit x
      go (inl e) lower (y, inl v, d) = at_most_trans L A.unit y x (here y (subst (λ i. Low A card h i i y) e v)) d
      go (inl e) lower (y, inr (a, b, u, v, f), d) =
          at_most_trans L A.unit b x (here b (subst (λ i. Low A card h h i b) e v)) (drop_front L a b y x (here a (subst (λ i. Low A card h i h a) e u)) f d)
      go (inr (inl m)) lower (y, inl v, d) = at_most_trans L A.unit y x (lower j m y v) d
      go (inr (inl m)) lower (y, inr (a, b, u, v, f), d) =
          at_most_trans L A.unit y x (subst (λ z. AtMost A A.unit z) (L.comm b a ∙ sym f) (here (A.join b a) (low_join L card h h j h b a m v u))) d
      go (inr (inr m)) lower p = absurd (omega arith)

  found_gains : (h k : ℕ) → k < h → LookHits A card h k → GainsAt A card h
  found_gains h k l (a, b, u, v, under) =
      let w = of_low L card h h h (A.join a b) (low_join L card h h k h a b l (low_mono L card k h h k a (omega arith) (to_low L card k h k a u.0)) (low_mono L card k h k h b (omega arith) (to_low L card k k h b v.0))) in
      (w.0, w.1, w.2, subst (λ x. A.Under x A.unit) (sym w.3) under)

  -- a closed walk at h with inner formats below j avoids the highest of them, or is at least the least way there and back
  not_found_calm : (n : ℕ) → Sound A n card → (h : ℕ) → ((k : ℕ) → k < h → GainsAt A card k → ⊥) →
      ((k : ℕ) → k < h → (o : Option A.Value) × LowLeast A card k h k o) → ((k : ℕ) → k < h → (o : Option A.Value) × LowLeast A card k k h o) →
      ((k : ℕ) → k < h → LookHits A card h k → ⊥) → (j : ℕ) → j ≤ h → (x : A.Value) → Low A card j h h x → AtMost A A.unit x
  not_found_calm n sound h calm out back none zero l x ([], b, r) = absurd ((sound.inside h h x r).2 refl)
  not_found_calm n sound h calm out back none zero l x (m ∷ ms, b, r) = absurd (omega arith)
  not_found_calm n sound h calm out back none (suc j) l x w =
      go (not_found_calm n sound h calm out back none j (omega arith)) (pass L card j (calm_at L card j (calm j l)) h w.0 h x w.1 w.2)
    where
      go : ((y : A.Value) → Low A card j h h y → AtMost A A.unit y) → Covers A (Passes L card j h h) x → AtMost A A.unit x
      go lower (y, inl v, d) = at_most_trans L A.unit y x (lower y v) d
      go lower (y, inr (a, b, u, v, f), d) =
          let p = out j l in
          let q = back j l in
          let s = least_serves L (LowWalkCosts A card j h j) p.0 p.1 a (of_low L card j h j a u) in
          let t = least_serves L (LowWalkCosts A card j j h) q.0 q.1 b (of_low L card j j h b v) in
          at_most_trans L A.unit y x (at_most_trans L A.unit (A.join s.0 t.0) y
          (λ under. none j l (s.0, t.0, subst (LowLeast A card j h j) s.1 p.1, subst (LowLeast A card j j h) t.1 q.1, under))
          (subst (λ z. AtMost A (A.join s.0 t.0) z) (sym f) (at_most_joined L s.0 a t.0 b s.2 t.2))) d

pub look_finds : {A : Algebra} → Lawful A → LookFinds A
look_finds {A} L n card sound h calm out back = (
  λ f. found_gains L card h f.0 f.1 f.2,
  λ none g. not_found_calm L card n sound h calm out back none h (omega arith) _ (g.0, g.1, to_runs L card h g.0 h g.2) g.3,
)

pub no_hidden_loop : {A : Algebra} → Lawful A → NoHiddenLoop A
no_hidden_loop {A} L n card sound calm (h, ms, w, under) =
    let r = to_runs L card h ms h w in
    let i = runs_inside L card n sound h ms h _ r in
    no_low_loop L card n calm h i.0 _ (ms, i.1, r) under
