-- Passes over a table of cells: what a row of writes does, two passes after each other, and what a pass keeps.
-- The cell of s and t stands at s * n + t.
use Rattle.std.proofs.Common.{◌≡◌, ℕ, suc, ◌+◌, ◌-◌, ◌*◌, ◌/◌, ◌%◌, ◌<◌, ◌≤◌, cond, not, ◌&&◌, eqb, ltb, ◌⊎◌, Bool, true, false, List, length, map, get_or, set, is_some, Some, None, Option, Decides, sym, refl, ap, ◌∙◌, subst, subst₂, inl, inr, arith}
use Rattle.std.proofs.Math.Logic.{∥∥₁_elim}
use Rattle.std.proofs.lemmas.List.{length-set, length-map, map-set, get_or-map, get_or-set_same, get_or-set_other}
use Rattle.std.proofs.lemmas.Nat.{mul-add-lt, div-mul-add, mod-mul-add}
use Rattle.std.proofs.lemmas.Bool.{cases_lt, cases_Bool, cond-true, cond-false, and_from, lt-ltb, ne_eqb}
use Rattle.costs.specs.declared.Cost.{Ghosts as Kind}
use Rattle.costs.specs.Algebra.{Algebra, Lawful, reach}
use Rattle.walks.specs.Walk.{LeastOf}
use Rattle.walks.specs.Theorems.{Either}
use Rattle.bay.specs.Cells.{Table, meaning_at, least_in, cards_in}
use Rattle.bay.specs.Buffers.{Beyond}
use Rattle.walks.specs.Levels.{Joinable, UndercutUnit, Near}
use Rattle.bay.specs.Eliminated.{Block, InRow, PivotReady, Improved}
use Rattle.bay.specs.FormatSets.{holds, no_formats}
use Rattle.bay.specs.declared.cells.Cell.{Cell}
use Rattle.bay.specs.declared.elimination.Via.{Via}
use Rattle.walks.proofs.Least.{equal_unless, either_none, either_new, either_better, either_kept, joined_is}

-- addresses
pub place_lt : (n s t : ℕ) → s < n → t < n → s * n + t < n * n
place_lt n s t ls lt = mul-add-lt s n t n ls lt

pub place_same : (n s t a b : ℕ) → t < n → b < n → s * n + t ≡ a * n + b → (s ≡ a) × (t ≡ b)
place_same n s t a b lt lb e = (
  sym (div-mul-add s n t lt) ∙ ap (λ p. p / n) e ∙ div-mul-add a n b lb,
  sym (mod-mul-add s n t lt) ∙ ap (λ p. p % n) e ∙ mod-mul-add a n b lb,
)

pub row_end : (n s : ℕ) → s < n → s * n + n ≤ n * n
row_end n s l = let last = place_lt n s (n - 1) l (omega arith) in omega (arith, last, l)

pub beyond_none : {X : Type 0} (n : ℕ) (xs : List X) → Beyond n xs xs
beyond_none n xs = record { long = refl; same = λ k d l. refl }

pub beyond_then : {X : Type 0} (n : ℕ) (first second third : List X) → Beyond n first second → Beyond n second third → Beyond n first third
beyond_then n first second third p q = record { long = q.long ∙ p.long; same = λ k d l. q.same k d l ∙ p.same k d l }

-- what is written below n
pub beyond_write : {X : Type 0} (n : ℕ) (xs : List X) (i : ℕ) (x : X) → i < n → Beyond n xs (set xs i x)
beyond_write n xs i x h = record { long = length-set xs i x; same = λ k d l. get_or-set_other xs i k x d (λ e. absurd (omega arith)) }

module _ {C : Type 0} (K : Kind C) where
  abbrev means : Cell C → K.algebra.Value
  means c = K.value c.cost

  -- a cost that was read, and what a write leaves
  pub meaning_read : (cells : List (Cell C)) (k : ℕ) (d c : Cell C) → k < length cells → c ≡ get_or cells k d → K.value c.cost ≡ meaning_at K cells k
  meaning_read cells k d c l e = ap means e ∙ sym (get_or-map means cells k d K.algebra.unit l)

  pub meaning_same : (cells : List (Cell C)) (k : ℕ) (c : Cell C) → k < length cells → meaning_at K (set cells k c) k ≡ K.value c.cost
  meaning_same cells k c l =
      ap (λ xs. get_or xs k K.algebra.unit) (map-set means cells k c) ∙ get_or-set_same (map means cells) k (means c) K.algebra.unit (let long = length-map cells means in omega (arith, long))

  pub meaning_other : (cells : List (Cell C)) (k j : ℕ) (c : Cell C) → (j ≡ k → ⊥) → meaning_at K (set cells k c) j ≡ meaning_at K cells j
  meaning_other cells k j c ne = ap (λ xs. get_or xs j K.algebra.unit) (map-set means cells k c) ∙ get_or-set_other (map means cells) k j (means c) K.algebra.unit ne

module _ {C : Type 0} (K : Kind C) (n : ℕ) where
  pub least_there : (t : Table C) (s w : ℕ) → holds (get_or t.there s no_formats) w ≡ true → least_in K n t s w ≡ Some (meaning_at K t.cells (s * n + w))
  least_there t s w e = cond-true _ _ _ e

  pub least_none : (t : Table C) (s w : ℕ) → holds (get_or t.there s no_formats) w ≡ false → least_in K n t s w ≡ None
  least_none t s w e = cond-false _ _ _ e

  pub least_is_some : (t : Table C) (s w : ℕ) → is_some (least_in K n t s w) ≡ holds (get_or t.there s no_formats) w
  least_is_some t s w = elim (cases_Bool (holds (get_or t.there s no_formats) w)) [
    | inl e ↦ ap is_some (least_there t s w e) ∙ sym e
    | inr e ↦ ap is_some (least_none t s w e) ∙ sym e
  ]

  -- the same sets and costs give the same least costs
  pub least_alike : (t u : Table C) (s w a b : ℕ) → holds (get_or t.there s no_formats) w ≡ holds (get_or u.there a no_formats) b →
      meaning_at K t.cells (s * n + w) ≡ meaning_at K u.cells (a * n + b) → least_in K n t s w ≡ least_in K n u a b
  least_alike t u s w a b e f = subst₂ (λ h x. cond h (Some x) None ≡ least_in K n u a b) (sym e) (sym f) refl

  -- the costs of a table between different formats are those of the cards that it is loaded with
  pub cards_fresh : (t : Table C) (s w : ℕ) → s < n → w < n → (s ≡ w → ⊥) → least_in K n t s w ≡ cards_in K n t s w
  cards_fresh t s w ls lw ne = sym (cond-true (ltb s n && (ltb w n && not (eqb s w))) _ _ (and_from _ _ (lt-ltb s n ls) (and_from _ _ (lt-ltb w n lw) (ap not (ne_eqb s w ne)))))

  -- a pass over cells that it leaves: their row has no cost to the pivot, or their column none from it
  pub improved_none : Lawful K.algebra → (k : ℕ) (Hit : ℕ → ℕ → Type 0) (t : Table C) →
      ((s w : ℕ) → Hit s w → (least_in K n t s k ≡ None) ⊎ (least_in K n t k w ≡ None)) → Improved K n k Hit t t
  improved_none L k Hit t none =
      record { hit = λ s w ls lw h. either_none L _ _ _ (none s w h); missed = λ s w ls lw h. refl; beyond = beyond_none (n * n) t.cells; there = refl }

  -- a pass over more cells, where those that are more have no cost from the pivot
  pub improved_wider : Lawful K.algebra → (k : ℕ) (H Wide : ℕ → ℕ → Type 0) (t u : Table C) → ((s w : ℕ) → H s w → Wide s w) →
      ((s w : ℕ) → s < n → w < n → Wide s w → H s w ⊎ ((H s w → ⊥) × ((least_in K n t s k ≡ None) ⊎ (least_in K n t k w ≡ None)))) → Improved K n k H t u → Improved K n k Wide t u
  improved_wider L k H Wide t u into split i = record {
    hit = λ s w ls lw h. elim (split s w ls lw h) [
      | inl g ↦ i.hit s w ls lw g
      | inr g ↦ subst (LeastOf K.algebra (Either K.algebra (least_in K n t s w) (least_in K n t s k) (least_in K n t k w))) (sym (i.missed s w ls lw g.0)) (either_none L _ _ _ g.1)
    ];
    missed = λ s w ls lw h. i.missed s w ls lw (λ g. h (into s w g));
    beyond = i.beyond;
    there = i.there;
  }

  -- two passes after each other are one, where the second neither writes nor reads what the first wrote
  pub improved_then : (k : ℕ) (H H' Both : ℕ → ℕ → Type 0) (first second third : Table C) → k < n →
      ((s t : ℕ) → Both s t → H s t ⊎ H' s t) → ((s t : ℕ) → H s t → Both s t) → ((s t : ℕ) → H' s t → Both s t) →
      ((s t : ℕ) → H' s t → (H s t → ⊥) × (H s k → ⊥) × (H k t → ⊥)) →
      Improved K n k H first second → Improved K n k H' second third → Improved K n k Both first third
  improved_then k H H' Both first second third lk split left right apart p q =
      record { hit = λ s t ls lt h. go s t ls lt (split s t h); missed = missed; beyond = beyond_then (n * n) _ _ _ p.beyond q.beyond; there = q.there ∙ p.there }
    where
      go : (s t : ℕ) → s < n → t < n → H s t ⊎ H' s t →
          LeastOf K.algebra (Either K.algebra (least_in K n first s t) (least_in K n first s k) (least_in K n first k t)) (least_in K n third s t)
      go s t ls lt (inl h) =
          subst (λ o. LeastOf K.algebra (Either K.algebra (least_in K n first s t) (least_in K n first s k) (least_in K n first k t)) o)
          (sym (q.missed s t ls lt (λ h'. (apart s t h').0 h))) (p.hit s t ls lt h)
      go s t ls lt (inr h) =
          let away = apart s t h in
          subst (λ o. LeastOf K.algebra (Either K.algebra o (least_in K n first s k) (least_in K n first k t)) (least_in K n third s t)) (p.missed s t ls lt away.0)
          (subst (λ o. LeastOf K.algebra (Either K.algebra (least_in K n second s t) o (least_in K n first k t)) (least_in K n third s t)) (p.missed s k ls lk away.1)
          (subst (λ o. LeastOf K.algebra (Either K.algebra (least_in K n second s t) (least_in K n second s k) o) (least_in K n third s t)) (p.missed k t lk lt away.2) (q.hit s t ls lt h)))

      missed : (s t : ℕ) → s < n → t < n → (Both s t → ⊥) → least_in K n third s t ≡ least_in K n first s t
      missed s t ls lt h = q.missed s t ls lt (λ g. h (right s t g)) ∙ p.missed s t ls lt (λ g. h (left s t g))

  -- a row of a block and the rows below it, where the pivot lies in none of the rows and columns
  pub block_down : (k r m r' c c' : ℕ) (first second third : Table C) → k < n → r ≤ m → m ≤ r' → (r ≤ k → k < m → ⊥) → (c ≤ k → k < c' → ⊥) →
      Improved K n k (Block r m c c') first second → Improved K n k (Block m r' c c') second third → Improved K n k (Block r r' c c') first third
  block_down k r m r' c c' first second third lk lm lm' rows columns =
      improved_then k (Block r m c c') (Block m r' c c') (Block r r' c c') first second third lk (λ s t h. split s t h (cases_lt s m))
      (λ s t h. (h.0, omega arith, h.2, h.3)) (λ s t h. (omega arith, h.1, h.2, h.3))
      (λ s t h. (λ g. absurd (omega arith), λ g. columns g.2 g.3, λ g. rows g.0 g.1))
    where
      split : (s t : ℕ) → Block r r' c c' s t → (s < m) ⊎ (m ≤ s) → Block r m c c' s t ⊎ Block m r' c c' s t
      split s t h (inl l) = inl (h.0, l, h.2, h.3)
      split s t h (inr l) = inr (l, h.1, h.2, h.3)

  -- a row with no cost to the pivot
  pub row_none : Lawful K.algebra → (s : ℕ) (via : Via) (t : Table C) → holds (get_or t.there s no_formats) via.at ≡ false → Improved K n via.at (InRow s via.reached) t t
  row_none L s via t e = improved_none L via.at (InRow s via.reached) t (λ a w h. inl (subst (λ a. least_in K n t a via.at ≡ None) (sym h.0) (least_none t s via.at e)))

-- y is held for the combination of the costs p and q: it is exact, so what is told by it is told by them
module _ {A : Algebra} (L : Lawful A) (p q : Option A.Value) (joinable : ∥ Joinable A p q ∥₁) (a b y : A.Value) (ep : p ≡ Some a) (eq : q ≡ Some b)
    (exact : (m k : ℕ) → m + k ≤ reach → A.Within m a → A.Within k b → y ≡ A.join a b) where
  joined : y ≡ A.join a b
  joined = equal_unless L y (A.join a b) (λ ne. ∥∥₁_elim joinable (λ x z. absurd x) (λ j. let (m, k, few, near, near') = j a b ep eq in ne (exact m k few near near')))

  -- whether it undercuts the unit
  pub held_decides : (u : A.Value) (r : Bool) → u ≡ A.unit → (r ≡ true → A.Under y u) → (r ≡ false → A.Under y u → ⊥) → Decides r (UndercutUnit A p q)
  held_decides u r eu less more = (λ e. (y, (a, b, ep, eq, joined), subst (A.Under y) eu (less e)), λ h. elim (cases_Bool r) [ inl e ↦ e | inr e ↦ absurd (more e (back h)) ])
    where
      back : UndercutUnit A p q → A.Under y u
      back (x, j, less) = subst₂ A.Under (sym (joined ∙ joined_is L p q a b x ep eq j)) (sym eu) less

-- costs that lie within one card more than there are formats can be combined
pub near_joinable : (A : Algebra) (n : ℕ) (p q : Option A.Value) → 2 * (n + 1) ≤ reach → Near A n p → Near A n q → Joinable A p q
near_joinable A n p q small np nq a b ep eq = (suc n, suc n, omega arith, np a ep, nq b eq)
