-- Legs booked one after the other: what is known after some of them.
use Rattle.std.proofs.Common.{◌≡◌, ℕ, ◌+◌, ◌<◌, ◌≤◌, Bool, true, false, Some, Option, arith, List, [], ◌∷◌, ◌++◌, length, map, get_or, take, drop, None, Ok, sym, refl, ap, ◌∙◌, append_assoc, append-nil}
use Rattle.std.proofs.lemmas.List.{drop_more, take_more, take_all, drop_all}
use Rattle.costs.specs.declared.Cost.{Ghosts as Kind}
use Rattle.registers.specs.Fault.{after, code, first_cause}
use Rattle.registers.specs.declared.fault.Code.{Code}
use Rattle.registers.specs.declared.fault.Layer.TheVariants.{Bay as BayLayer}
use Rattle.lent.specs.List.{or_else}
use Rattle.registers.specs.Meaning.{Meaning, meant}
use Rattle.registers.specs.declared.Register.{Ghosts as RegisterOf}
use Rattle.bay.specs.Bays.{legs, plain}
use Rattle.bay.specs.Plain.{Plain, book_causes, ends}
use Rattle.bay.specs.declared.bays.Bay.{Bay}
use Rattle.bay.specs.declared.legs.Ends.{Ends}
use Rattle.bay.proofs.Granted.{none≢some}
use Rattle.tables.proofs.Verdicts.{other_number}
use Rattle.direct.specs.Cards.{with_more, booking_cause, AllBooked}

-- the first k legs are booked, and the cause is that of the others
pub record Taken {C : Type 0} {K : Kind C} (p q : Plain K) (legs : List Ends) (k : ℕ) : Type 0 where
  pub is : q ≡ with_more p (take k legs)
  pub rest : booking_cause p legs ≡ booking_cause q (drop k legs)

module _ {C : Type 0} {K : Kind C} (p : Plain K) (legs : List Ends) where
  pub taken_none : Taken p p legs 0
  taken_none = record { is = λ i. record { register = p.register; legs = sym (append-nil p.legs) i }; rest = refl }

  module _ (q : Plain K) (k : ℕ) (d : Ends) (h : k < length legs) (t : Taken p q legs k) where
    abbrev leg : Ends
    leg = get_or legs k d

    -- the cause of the rest is that of the next leg, or of those after it
    next : booking_cause q (drop k legs) ≡ or_else (first_cause (book_causes q leg.from leg.to)) (booking_cause (with_more q (leg ∷ [])) (drop (k + 1) legs))
    next = ap (booking_cause q) (drop_more legs k d h)

    pub taken_more : first_cause (book_causes q leg.from leg.to) ≡ None → (q' : Plain K) → q' ≡ after (first_cause (book_causes q leg.from leg.to)) q (with_more q (leg ∷ [])) → Taken p q' legs (k + 1)
    taken_more none q' e =
        let grown : q' ≡ with_more q (leg ∷ []) = e ∙ ap (λ o. after o q (with_more q (leg ∷ []))) none in
        let longer : with_more q (leg ∷ []) ≡ with_more p (take (k + 1) legs) =
        ap (λ r. with_more r (leg ∷ [])) t.is
        ∙ ap (λ l. record { register = p.register; legs = l }) (append_assoc p.legs (take k legs) (leg ∷ []) ∙ ap (λ l. p.legs ++ l) (sym (take_more legs k d h))) in
        record {
          is = grown ∙ longer;
          rest = t.rest ∙ next ∙ ap (λ o. or_else o (booking_cause (with_more q (leg ∷ [])) (drop (k + 1) legs))) none ∙ ap (λ r. booking_cause r (drop (k + 1) legs)) (sym grown);
        }

  pub taken_all : (q : Plain K) (k : ℕ) → length legs ≤ k → Taken p q legs k → AllBooked {X = Unit {0}} p q legs (Ok (tt {0}))
  taken_all q k end t =
      record {
        answers = sym (t.rest ∙ ap (booking_cause q) (drop_all k legs end));
        booked = λ none. t.is ∙ ap (with_more p) (take_all k legs end);
      }

-- no leg is refused for a loop
leg_cause : (from to full : Bool) (rest : Option Code) → (rest ≡ Some (code BayLayer 26 0) → ⊥) →
    or_else (first_cause ((from, code BayLayer 11 0) ∷ (to, code BayLayer 11 1) ∷ (full, code BayLayer 24 0) ∷ [])) rest ≡ Some (code BayLayer 26 0) → ⊥
leg_cause true to full rest other e = other_number (code BayLayer 11 0) (code BayLayer 26 0) (λ d. omega arith) e
leg_cause false true full rest other e = other_number (code BayLayer 11 1) (code BayLayer 26 0) (λ d. omega arith) e
leg_cause false false true rest other e = other_number (code BayLayer 24 0) (code BayLayer 26 0) (λ d. omega arith) e
leg_cause false false false rest other e = other e

pub booked_no_loop : {C : Type 0} {K : Kind C} (p : Plain K) (legs : List Ends) → booking_cause p legs ≡ Some (code BayLayer 26 0) → ⊥
booked_no_loop p [] e = none≢some e
booked_no_loop p (leg ∷ legs) e = leg_cause _ _ _ _ (booked_no_loop (with_more p (leg ∷ [])) legs) e

-- what a new bay is, over a register that holds m
pub new_bay : {R C : Type 0} {H : RegisterOf R C} {K : Kind C} (b : Bay R C H K) (m : Meaning C) → H.holds b.register ≡ m → legs b ≡ [] →
    plain b ≡ record { register = meant K m; legs = [] }
new_bay {K = K} b m held none = λ i. record { register = meant K (held i); legs = map ends (none i) }
