-- What the check's verdict says of numbers, and that no numbers make no card.
use Rattle.std.proofs.Common.{◌≡◌, ℕ, true, false, ◌⊎◌, List, [], ◌∷◌, is_some, ℤ, Some, None, Option, Ok, Err, Result, sym, refl, ap, ◌∙◌, inl, inr}
use Rattle.std.proofs.lemmas.Bool.{false≢true, cases_Bool, cond-true, cond-false}
use Rattle.costs.specs.Kinds.{delays}
use Rattle.registers.specs.House.{house_places}
use Rattle.registers.specs.Meaning.{meant, pair, stands}
use Rattle.registers.specs.declared.fault.Code.{Code}
use Rattle.walks.specs.Walk.{path, Walk}
use Rattle.costs.specs.Delay.{delay}
use Rattle.bay.proofs.Granted.{none≢some}
use Rattle.tables.specs.Faults.{table_refusal}
use Rattle.tables.specs.Tables.{Gaining, TableVerdict, PassesCheck, table_of}
use Rattle.tables.specs.declared.fault.TableFault.{TableFault}

-- two codes differ whose numbers do
abbrev number_of : Option Code → ℕ
number_of None = 0
number_of (Some c) = c.number

pub other_number : (c d : Code) → (c.number ≡ d.number → ⊥) → Some c ≡ Some d → ⊥
other_number c d other e = other (ap number_of e)

module _ (numbers : List ℤ) (answer : Option Code) where
  -- numbers that are granted pass
  pub granted_passes : (room : ℕ) → TableVerdict numbers room answer → answer ≡ None → PassesCheck numbers
  granted_passes room (inl t) e = absurd (none≢some (sym e ∙ t.answers))
  granted_passes room (inr (inl t)) e = absurd (none≢some (sym e ∙ t.answers))
  granted_passes room (inr (inr (inl t))) e = absurd (none≢some (sym e ∙ t.answers))
  granted_passes room (inr (inr (inr t))) e = t.passes

  -- numbers that pass are granted
  pub passes_granted : (room : ℕ) → room ≡ house_places → TableVerdict numbers room answer → PassesCheck numbers → answer ≡ None
  passes_granted room is (inl t) p = absurd (t.unfit (p.long, is))
  passes_granted room is (inr (inl t)) p = absurd (t.first.unfit (p.suit t.index t.first.inside))
  passes_granted room is (inr (inr (inl t))) p = absurd (p.no_loop t.gains)
  passes_granted room is (inr (inr (inr t))) p = t.answers

pub told_none : (r : Result (Unit {0}) TableFault) → table_refusal r ≡ None → r ≡ Ok tt
told_none (Ok tt) e = refl
told_none (Err f) e = absurd (none≢some (sym e))

empty_no_card : (a b : ℕ) → is_some (stands delays (table_of []) a b) ≡ true → ⊥
empty_no_card a b h = go (cases_Bool (pair (meant delays (table_of [])) a b))
  where
    go : (pair (meant delays (table_of [])) a b ≡ true) ⊎ (pair (meant delays (table_of [])) a b ≡ false) → ⊥
    go (inl p) = false≢true (ap is_some (sym (cond-true (pair (meant delays (table_of [])) a b) _ _ p)) ∙ h)
    go (inr p) = false≢true (ap is_some (sym (cond-false (pair (meant delays (table_of [])) a b) _ _ p)) ∙ h)

no_walk : (s : ℕ) (ms : List ℕ) (t : ℕ) → Walk delay (stands delays (table_of [])) (path s ms t) → ⊥
no_walk s [] t w = empty_no_card s t w.0
no_walk s (m ∷ ms) t w = empty_no_card s m w.0

pub empty_calm : Gaining [] → ⊥
empty_calm (h, ms, w, under) = no_walk h ms h w
