-- Following a table of next formats until t: the lists met, how they agree, and the tree that grows in such a table.
-- `ticked` says who is in the tree, by format, and `next` the next format of each one that is.
use Rattle.std.proofs.Common.{◌≡◌, ℕ, zero, suc, ◌<◌, Bool, true, false, not, ◌⊎◌, List, [], ◌∷◌, ◌++◌, length, get_or, set, replicate, is_some, Some, Option, unwrap_or, sym, refl, ap, ◌∙◌, subst, ap₂, inl, inr}
use Rattle.std.proofs.lemmas.List.{get_or-set_same, get_or-set_other}
use Rattle.std.proofs.lemmas.Bool.{cases_eq, cases_Bool, both_ways}
use Rattle.costs.specs.Algebra.{Algebra, Lawful}
use Rattle.walks.specs.Walk.{FromTo, Absent, Distinct, LeastOf, Walk, cost, WalkCosts, Least, Gains, Tight}
use Rattle.walks.specs.Theorems.{Sound}
use Rattle.bay.specs.Tracing.{Follows, Ticked, Led, Grown}
use Rattle.walks.proofs.Tree.{tree_reaches}

module _ (next : List ℕ) (t : ℕ) where
  pub follows_head : (v f : ℕ) (fs : List ℕ) → Follows next t v (f ∷ fs) → f ≡ v
  follows_head v f [] h = h.0
  follows_head v f (g ∷ fs) h = h.0

  pub follows_same : (v : ℕ) (fs gs : List ℕ) → Follows next t v fs → Follows next t v gs → fs ≡ gs
  follows_same v [] gs h k = absurd h
  follows_same v (f ∷ []) [] h k = absurd k
  follows_same v (f ∷ []) (g ∷ []) h k = ap (λ x. x ∷ []) (h.0 ∙ sym k.0)
  follows_same v (f ∷ []) (g ∷ g' ∷ gs) h k = absurd (k.1 h.1)
  follows_same v (f ∷ f' ∷ fs) [] h k = absurd k
  follows_same v (f ∷ f' ∷ fs) (g ∷ []) h k = absurd (h.1 k.1)
  follows_same v (f ∷ f' ∷ fs) (g ∷ g' ∷ gs) h k =
      let e = follows_same (get_or next v 0) (f' ∷ fs) (g' ∷ gs) h.2 k.2 in
      ap (λ x. x ∷ f' ∷ fs) (h.0 ∙ sym k.0) ∙ ap (λ xs. g ∷ xs) e

  -- the rest of a list follows from its own first format
  follows_from : (v : ℕ) (ps : List ℕ) (m : ℕ) (bs : List ℕ) → Follows next t v (ps ++ m ∷ bs) → Follows next t m (m ∷ bs)
  follows_from v [] m bs h = subst (λ x. Follows next t x (m ∷ bs)) (sym (follows_head v m bs h)) h
  follows_from v (a ∷ []) m bs h = follows_from (get_or next v 0) [] m bs h.2
  follows_from v (a ∷ b ∷ ps) m bs h = follows_from (get_or next v 0) (b ∷ ps) m bs h.2

  -- two lists go on alike from where they meet
  pub follows_agree : (v w : ℕ) (fs gs ps : List ℕ) (m : ℕ) (bs cs ds : List ℕ) → Follows next t v fs → Follows next t w gs →
      fs ≡ ps ++ m ∷ bs → gs ≡ cs ++ m ∷ ds → bs ≡ ds
  follows_agree v w fs gs ps m bs cs ds h k p q =
      let e = follows_same m (m ∷ bs) (m ∷ ds) (follows_from v ps m bs (rw p at h)) (follows_from w cs m ds (rw q at k)) in
      cc

  follows_last : (v : ℕ) (fs : List ℕ) → Follows next t v fs → (front : List ℕ) × (fs ≡ front ++ t ∷ [])
  follows_last v [] h = absurd h
  follows_last v (f ∷ []) h = ([], ap (λ x. x ∷ []) (h.0 ∙ h.1))
  follows_last v (f ∷ g ∷ fs) h = let (front, e) = follows_last (get_or next v 0) (g ∷ fs) h.2 in (f ∷ front, ap (λ xs. f ∷ xs) e)

  -- a list begins where it is followed from, and ends with t
  pub follows_ends : (v : ℕ) (fs : List ℕ) → Follows next t v fs → FromTo v t fs
  follows_ends v [] h = absurd h
  follows_ends v (f ∷ fs) h = ((fs, ap (λ x. x ∷ fs) (follows_head v f fs h)), follows_last v (f ∷ fs) h)

pub none_ticked : (n v : ℕ) → get_or (replicate n false) v false ≡ false
none_ticked zero v = refl
none_ticked (suc n) zero = refl
none_ticked (suc n) (suc v) = none_ticked n v

-- what a format that is not in the tree changes when it joins
module _ (ticked : List Bool) (v : ℕ) (free : get_or ticked v false ≡ false) where
  other : (x : ℕ) → get_or ticked x false ≡ true → x ≡ v → ⊥
  other x k e = both_ways (get_or ticked v false) free (rw e at k)

  pub absent_free : (fs : List ℕ) → Ticked ticked fs → Absent v fs
  absent_free [] k = tt
  absent_free (f ∷ fs) k = (λ e. other f k.0 (sym e), absent_free fs k.1)

  pub ticked_kept : (fs : List ℕ) → Ticked ticked fs → Ticked (set ticked v true) fs
  ticked_kept [] k = tt
  ticked_kept (f ∷ fs) k = (get_or-set_other ticked v f true false (other f k.0) ∙ k.0, ticked_kept fs k.1)

  follows_kept : (next : List ℕ) (t w x : ℕ) (fs : List ℕ) → Ticked ticked fs → Follows next t x fs → Follows (set next v w) t x fs
  follows_kept next t w x [] k h = h
  follows_kept next t w x (f ∷ []) k h = h
  follows_kept next t w x (f ∷ g ∷ fs) k h =
      (h.0, h.1, rw (get_or-set_other next v x w 0 (other x (rw h.0 at k.0))) (follows_kept next t w (get_or next x 0) (g ∷ fs) k.1 h.2))

-- a list inside the tree ends in t, so t is in the tree
ticked_end : (ticked : List Bool) (next : List ℕ) (t v : ℕ) (fs : List ℕ) → Follows next t v fs → Ticked ticked fs → get_or ticked t false ≡ true
ticked_end ticked next t v [] h k = absurd h
ticked_end ticked next t v (f ∷ []) h k = rw (h.0 ∙ h.1) at k.0
ticked_end ticked next t v (f ∷ g ∷ fs) h k = ticked_end ticked next t (get_or next v 0) (g ∷ fs) h.2 k.1

module _ (A : Algebra) (card : ℕ → ℕ → Option A.Value) (d : ℕ → Option A.Value) (t : ℕ) (ticked : List Bool) (next : List ℕ) where
  -- the tree begins with t alone
  pub grown_start : d t ≡ Some A.unit → ((v : ℕ) → get_or ticked v false ≡ false) → Grown A card d t (set ticked t true) next
  grown_start at_t free v k = go (cases_eq v t)
    where
      go : (v ≡ t) ⊎ (v ≡ t → ⊥) → Led A card d t (set ticked t true) next v
      go (inl e) = record { formats = v ∷ []; follows = (refl, e); distinct = (tt, tt); inside = (k, tt); walks = tt; costs = ap d e ∙ at_t }
      go (inr ne) = absurd (both_ways _ (get_or-set_other ticked t v true false ne ∙ free v) k)

  -- with v in front of what leads from w
  led_more : (v w : ℕ) → get_or ticked v false ≡ false → v < length ticked → v < length next → Tight A card d v w →
      Led A card d t ticked next w → Led A card d t (set ticked v true) (set next v w) v
  led_more v w free l m (c, x, p, q, r) k = go k.formats k.follows k.distinct k.inside k.walks k.costs
    where
      go : (fs : List ℕ) → Follows next t w fs → Distinct fs → Ticked ticked fs → Walk A card fs → d w ≡ Some (cost A card fs) →
          Led A card d t (set ticked v true) (set next v w) v
      go [] h s i f e = absurd h
      go (g ∷ gs) h s i f e =
          let o : card v g ≡ Some c = ap (card v) (follows_head next t w g gs h) ∙ p in
          let u : x ≡ cost A card (g ∷ gs) = cc in
          record {
            formats = v ∷ g ∷ gs;
            follows = (
              refl,
              λ b. other ticked v free t (ticked_end ticked next t w (g ∷ gs) h i) (sym b),
              rw (get_or-set_same next v w 0 m) (follows_kept ticked v free next t w w (g ∷ gs) i h),
            );
            distinct = (absent_free ticked v free (g ∷ gs) i, s);
            inside = (get_or-set_same ticked v true false l, ticked_kept ticked v free (g ∷ gs) i);
            walks = (ap is_some o, f);
            costs = r ∙ ap₂ (λ y z. Some (A.join (unwrap_or y A.unit) z)) (sym o) u;
          }

  pub grown_more : Grown A card d t ticked next → (v w : ℕ) → get_or ticked w false ≡ true → get_or ticked v false ≡ false →
      v < length ticked → v < length next → Tight A card d v w → Grown A card d t (set ticked v true) (set next v w)
  grown_more grown v w i free l m tight x k = go (cases_eq x v)
    where
      go : (x ≡ v) ⊎ (x ≡ v → ⊥) → Led A card d t (set ticked v true) (set next v w) x
      go (inl e) = rw e (led_more v w free l m tight (grown w i))
      go (inr ne) =
          let o = grown x (sym (get_or-set_other ticked v x true false ne) ∙ k) in
          record {
            formats = o.formats;
            follows = follows_kept ticked v free next t w x o.formats o.inside o.follows;
            distinct = o.distinct;
            inside = ticked_kept ticked v free o.formats o.inside;
            walks = o.walks;
            costs = o.costs;
          }

-- A set of formats without t that has each format with a tight card from the set: no walk leads from it to t. What is left
-- out of it is a tree that has t, and each format with a tight card into it.
module _ {A : Algebra} (L : Lawful A) (n : ℕ) (card : ℕ → ℕ → Option A.Value) (sound : Sound A n card) (gainless : Gains A card → ⊥)
    (t : ℕ) (d : ℕ → Option A.Value) (least : (v : ℕ) → Least A card v t (d v))
    (marks : List Bool) (without : get_or marks t false ≡ false)
    (closed : (v w : ℕ) → w < n → get_or marks v false ≡ true → Tight A card d v w → get_or marks w false ≡ true) where
  left_out : (v w : ℕ) → not (get_or marks w false) ≡ true → Tight A card d v w → (get_or marks v false ≡ true) ⊎ (get_or marks v false ≡ false) → not (get_or marks v false) ≡ true
  left_out v w o tight (inl i) = absurd (both_ways _ (rw (closed v w (sound.inside v w tight.0 tight.2).1 i tight) refl) o)
  left_out v w o tight (inr f) = rw f refl

  pub closed_never : (v : ℕ) → get_or marks v false ≡ true → (x : A.Value) → d v ≡ Some x → ⊥
  closed_never v i x e =
      let h : LeastOf A (WalkCosts A card v t) (Some x) = rw e at (least v) in
      let o = tree_reaches L n card sound gainless t d least (λ v. not (get_or marks v false)) (rw without refl)
      (λ v w o tight. left_out v w o tight (cases_Bool (get_or marks v false))) v x h.0 in
      both_ways _ (rw i refl) o
