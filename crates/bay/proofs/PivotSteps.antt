-- Rows by way of one pivot, after each other.
use Rattle.std.proofs.Common.{◌≡◌, ℕ, ◌+◌, ◌<◌, ◌⊎◌, Bool, true, false, get_or, is_some, Some, None, sym, ap, ◌∙◌, subst, inl, inr, arith}
use Rattle.std.proofs.lemmas.Bool.{cases_Bool, both_ways}
use Rattle.costs.specs.declared.Cost.{Ghosts as Kind}
use Rattle.costs.specs.Algebra.{Lawful}
use Rattle.bay.specs.Cells.{Table, Roomy, least_in}
use Rattle.bay.specs.Eliminated.{Block, Improved, InRow, Leads, NearBy, PivotReady, RowReady, Spans}
use Rattle.bay.specs.FormatSets.{holds, no_formats}
use Rattle.bay.specs.declared.elimination.Via.{Via}
use Rattle.bay.proofs.Passes.{block_down, improved_wider, least_is_some, least_none}

-- what is known of a lent place holds of what was lent for it
pub lent_back : {X : Type 0} (P : X → Type 0) {x x' : X} → P x → x' ≡ x → P x'
lent_back P p e = subst P (sym e) p

module _ {C : Type 0} (K : Kind C) (n : ℕ) where
  pub roomy_on : (Hit : ℕ → ℕ → Type 0) (k : ℕ) (entry exit : Table C) → Improved K n k Hit entry exit → Roomy K n entry → Roomy K n exit
  roomy_on Hit k entry exit i r = record { cells = rw i.beyond.long r.cells; there = i.there ∙ r.there; few = r.few }

  -- where the least costs are the same, the sets are
  pub held_same : (entry exit : Table C) (s w : ℕ) → least_in K n exit s w ≡ least_in K n entry s w →
      holds (get_or exit.there s no_formats) w ≡ holds (get_or entry.there s no_formats) w
  held_same entry exit s w e = sym (least_is_some K n exit s w) ∙ ap is_some e ∙ least_is_some K n entry s w

  module _ (L : Lawful K.algebra) (at : ℕ) (before now : Table C) (via : Via) (at_is : via.at ≡ at) (spans : Spans n via)
      (leads : Leads (get_or before.there at no_formats) (at + 1) n via.reached) (ready : PivotReady K n at before) (s : ℕ) (above : at < s) (inside : s < n)
      (i : Improved K n at (Block (at + 1) s (at + 1) n) before now) where
    pivot_row : (w : ℕ) → w < n → least_in K n now at w ≡ least_in K n before at w
    pivot_row w l = i.missed at w ready.inside l (λ b. absurd (omega (arith, b.0)))

    column : least_in K n now s at ≡ least_in K n before s at
    column = i.missed s at inside ready.inside (λ b. absurd (omega (arith, b.2)))

    pub row_ready : RowReady K n s via now
    row_ready = record {
      roomy = roomy_on _ at before now i ready.roomy;
      inside = (inside, omega (arith, at_is, ready.inside), λ e. absurd (omega (arith, e, at_is, above)));
      spans = spans;
      reached = λ w h. (let l = leads.each w h in (λ e. absurd (omega (arith, l.0, e, at_is)), subst (λ a. holds (get_or now.there a no_formats) w ≡ true) (sym at_is) (held_same before now at w (pivot_row w l.1) ∙ l.2)));
    }

    pub row_near : NearBy K n s via now
    row_near = (
      λ x e. (ready.near s inside (λ d. absurd (omega (arith, d, above)))).0 x (sym column ∙ subst (λ a. least_in K n now s a ≡ Some x) at_is e),
      λ w h x e. (let l = leads.each w h in (ready.near w l.1 (λ d. absurd (omega (arith, d, l.0)))).1 x (sym (pivot_row w l.1) ∙ subst (λ a. least_in K n now a w ≡ Some x) at_is e)),
    )

    pub row_more : (later : Table C) → Improved K n via.at (InRow s via.reached) now later → Improved K n at (Block (at + 1) (s + 1) (at + 1) n) before later
    row_more later j =
        block_down K n at (at + 1) s (s + 1) (at + 1) n before now later ready.inside (omega arith) (omega arith) (λ l u. absurd (omega (arith, l))) (λ l u. absurd (omega (arith, l))) i
        (improved_wider K n L at (InRow s via.reached) (Block s (s + 1) (at + 1) n) now later
        (λ a w h. (let l = leads.each w h.1 in (omega (arith, h.0), omega (arith, h.0), l.0, l.1)))
        (λ a w la lw b. split a w lw b (cases_Bool (holds via.reached w)))
        (subst (λ k. Improved K n k (InRow s via.reached) now later) at_is j))
      where
        split : (a w : ℕ) → w < n → Block s (s + 1) (at + 1) n a w → (holds via.reached w ≡ true) ⊎ (holds via.reached w ≡ false) →
            InRow s via.reached a w ⊎ ((InRow s via.reached a w → ⊥) × ((least_in K n now a at ≡ None) ⊎ (least_in K n now at w ≡ None)))
        split a w lw b (inl h) = inl (omega (arith, b.0, b.1), h)
        split a w lw b (inr h) = inr (λ g. both_ways _ h g.1, inr (pivot_row w lw ∙ least_none K n before at w (gone (cases_Bool (holds (get_or before.there at no_formats) w)))))
          where
            gone : (holds (get_or before.there at no_formats) w ≡ true) ⊎ (holds (get_or before.there at no_formats) w ≡ false) → holds (get_or before.there at no_formats) w ≡ false
            gone (inl g) = absurd (both_ways _ h (leads.all w b.2 b.3 g))
            gone (inr g) = g

    pub row_told : (r : Bool) → r ≡ is_some (least_in K n now s via.at) → r ≡ is_some (least_in K n before s at)
    row_told r e = e ∙ ap (λ a. is_some (least_in K n now s a)) at_is ∙ ap is_some column
