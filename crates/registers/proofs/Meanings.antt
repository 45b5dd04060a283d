-- Meanings that hold the same are equal, and what `put` leaves at a pair.
use Rattle.std.proofs.Common.{◌≡◌, ℕ, ◌+◌, ◌-◌, ◌<◌, Bool, true, false, cond, not, ◌&&◌, eqb, ltb, is_some, Some, None, Option, sym, refl, ap, ◌∙◌}
use Rattle.std.specs.Option.{option_map}
use Rattle.std.proofs.lemmas.Bool.{and_parts, not-true, ltb-true, eqb-false, lt-ltb, ne_eqb, eq-eqb}
use Rattle.costs.specs.declared.Cost.{Ghosts as Kind}
use Rattle.registers.specs.Fault.{first_cause, code, after}
use Rattle.registers.specs.declared.fault.Code.{Code}
use Rattle.registers.specs.declared.fault.Layer.TheVariants.{Register}
use Rattle.registers.specs.Meaning.{Meaning, meant, possible, standing, put, entered, withdrawn, enter_causes}

pub same_meaning : {V : Type 0} (m k : Meaning V) → m.size ≡ k.size → ((a b : ℕ) → m.cards a b ≡ k.cards a b) → ((a b : ℕ) → m.sealed a b ≡ k.sealed a b) → m.free ≡ k.free → m ≡ k
same_meaning m k n c s f = λ i. record { size = n i; cards = λ a b. c a b i; sealed = λ a b. s a b i; free = f i }

pub mapped_cond : {C V : Type 0} (v : C → V) (t : Bool) (x y : Option C) → option_map v (cond t x y) ≡ cond t (option_map v x) (option_map v y)
mapped_cond v true x y = refl
mapped_cond v false x y = refl

pub is_some_mapped : {C V : Type 0} (v : C → V) (o : Option C) → is_some (option_map v o) ≡ is_some o
is_some_mapped v None = refl
is_some_mapped v (Some x) = refl

-- what two different formats are
pub possible_parts : (n a b : ℕ) → possible n a b ≡ true → (a < n) × (b < n) × (a ≡ b → ⊥)
possible_parts n a b e =
    let x = and_parts (ltb a n) (ltb b n && not (eqb a b)) e in
    let y = and_parts (ltb b n) (not (eqb a b)) x.1 in
    (ltb-true a n x.0, ltb-true b n y.0, eqb-false a b (not-true (eqb a b) y.1))

pub possible_ends : (n a b : ℕ) → a < n → b < n → (a ≡ b → ⊥) → possible n a b ≡ true
possible_ends n a b ha hb ne = rw (lt-ltb a n ha, lt-ltb b n hb, ne_eqb a b ne)

-- a granted call, from what a register holds before it and after it
module _ {C : Type 0} (K : Kind C) (m k : Meaning C) (a b : ℕ) (ends : possible m.size a b ≡ true) where
  pub stands : is_some (standing (meant K m) a b) ≡ is_some (m.cards a b)
  stands = rw ends (is_some_mapped K.value (m.cards a b))

  pub enter_granted : m.sealed a b ≡ false → (is_some (m.cards a b) ≡ false → m.free ≡ 0 → ⊥) → None ≡ first_cause (enter_causes (meant K m) a b true)
  enter_granted unsealed room =
      let h = possible_parts m.size a b ends in
      let room' : (not (is_some (m.cards a b)) && eqb m.free 0) ≡ false = by_test (is_some (m.cards a b)) refl in
      rw (lt-ltb a m.size h.0, lt-ltb b m.size h.1, ne_eqb a b h.2, unsealed, is_some_mapped K.value (m.cards a b), room')
    where
      by_test : (t : Bool) → is_some (m.cards a b) ≡ t → (not t && eqb m.free 0) ≡ false
      by_test true e = refl
      by_test false e = ne_eqb m.free 0 (room e)

  pub enter_full : m.sealed a b ≡ false → is_some (m.cards a b) ≡ false → m.free ≡ 0 → Some (code Register 23 0) ≡ first_cause (enter_causes (meant K m) a b true)
  enter_full unsealed new none =
      let h = possible_parts m.size a b ends in
      rw (lt-ltb a m.size h.0, lt-ltb b m.size h.1, ne_eqb a b h.2, unsealed, is_some_mapped K.value (m.cards a b), new, eq-eqb m.free 0 none)

  pub enter_after : (x : C) → k.size ≡ m.size → ((c d : ℕ) → k.cards c d ≡ put m.cards a b (Some x) c d) → ((c d : ℕ) → k.sealed c d ≡ m.sealed c d) → k.free ≡ cond (is_some (m.cards a b)) m.free (m.free - 1) → meant K k ≡ entered (meant K m) a b (K.value x)
  enter_after x n c s f =
      same_meaning _ _ n (λ p q. ap (option_map K.value) (c p q) ∙ mapped_cond K.value (eqb a p && eqb b q) (Some x) (m.cards p q)) s (f ∙ ap (λ t. cond t m.free (m.free - 1)) (sym stands))

  pub withdraw_after : k.size ≡ m.size → ((c d : ℕ) → k.cards c d ≡ put m.cards a b None c d) → ((c d : ℕ) → k.sealed c d ≡ m.sealed c d) → k.free ≡ m.free + 1 → meant K k ≡ withdrawn (meant K m) a b
  withdraw_after n c s f = same_meaning _ _ n (λ p q. ap (option_map K.value) (c p q) ∙ mapped_cond K.value (eqb a p && eqb b q) None (m.cards p q)) s f

-- what a call leaves under a register that lies over another, from what it leaves below
pub after_over : {V : Type 0} (over : Meaning V → Meaning V) (r : Option Code) (before next now : Meaning V) (before' next' now' : Meaning V) →
    before' ≡ over before → next' ≡ over next → now' ≡ over now → now ≡ after r before next → now' ≡ after r before' next'
after_over over None before next now before' next' now' eb ex en e = en ∙ ap over e ∙ sym ex
after_over over (Some f) before next now before' next' now' eb ex en e = en ∙ ap over e ∙ sym eb
