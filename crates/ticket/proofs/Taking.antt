-- Cards and legs that are taken from the lines of a ticket, one line and then line after line.
use Rattle.std.proofs.Common.{◌≡◌, ℕ, ◌+◌, ◌<◌, ◌≤◌, Bool, true, false, cond, eqb, ltb, List, [], ◌∷◌, ◌++◌, length, drop, set, replicate, Some, None, Ok, Err, Option, Result, sym, refl, ap, ◌∙◌, subst, inl, inr, arith, length-append}
use lib.ListN.{length-replicate}
use Rattle.std.proofs.lemmas.List.{append_assoc, drop_more, set_at}
use Rattle.std.proofs.lemmas.Bool.{cond-false, le-ltb, leb-false}
use Rattle.std.specs.Option.{option_map}
use Rattle.costs.specs.declared.Cost.{Ghosts as Kind}
use Rattle.costs.specs.Algebra.{Algebra}
use Rattle.costs.specs.Kind.{admits}
use Rattle.registers.specs.Fault.{code, first_cause, after}
use Rattle.registers.specs.Meaning.{enter_causes}
use Rattle.registers.specs.declared.fault.Code.{Code}
use Rattle.registers.specs.declared.fault.Layer.TheVariants.{Ticket}
use Rattle.bay.specs.Faults.{refused}
use Rattle.bay.specs.Plain.{Plain, book_causes, step, with_legs}
use Rattle.bay.specs.declared.legs.Ends.{Ends}
use Rattle.bay.specs.declared.calls.Call.TheVariants.{Book}
use Rattle.bay.specs.declared.fault.BayFault.{BayFault}
use Rattle.bay.specs.Limits.{most_legs}
use Rattle.lines.proofs.Places.{read_advances, read_within}
use Rattle.lines.specs.Grammar.{IsRead, IsRefused}
use Rattle.lines.specs.declared.line.Amount.{Amount}
use Rattle.lines.specs.declared.line.Line.{Line}
use Rattle.lines.specs.declared.line.Line.TheVariants.{Card, Leg}
use Rattle.lines.specs.declared.line.Read.{Read}
use Rattle.lines.specs.declared.line.Stage.{Stage}
use Rattle.lines.specs.declared.line.Stage.TheVariants.{Formats, Cards, Legs}
use Rattle.ticket.specs.Kinds.{ReadAs}
use Rattle.ticket.specs.Faults.{Told, at_byte, told, told_by}
use Rattle.bay.specs.Buffers.{in_front}
use Rattle.ticket.specs.Said.{Said, said, due, adds, each_at, line_causes, Passes, More, Through, LineRefused, Stops}
use Rattle.ticket.specs.Steps.{OnceCoded, OrderTaken, OrdersTaken}
use Rattle.ticket.proofs.Passing.{through_more}
use Rattle.ticket.specs.declared.fault.Refusal.{Refusal}
use Rattle.ticket.specs.declared.fault.TicketFault.TheVariants.{Bay}
use Rattle.ticket.specs.declared.orders.Progress.{Progress}

-- no cause of a list holds
abbrev pub NoneHolds : {X : Type 0} → List (Bool × X) → Type 0
NoneHolds [] = Unit {0}
NoneHolds (cause ∷ causes) = (cause.0 ≡ false) × NoneHolds causes

pub none_holds : {X : Type 0} (causes : List (Bool × X)) → first_cause causes ≡ None → NoneHolds causes
none_holds [] e = tt
none_holds ((true, x) ∷ causes) e = absurd (let z : ◌≡◌ {A = ℕ} 0 1 = cc in omega arith)
none_holds ((false, x) ∷ causes) e = (refl, none_holds causes e)

-- the first cause, told at a byte
pub first_at : (byte : ℕ) (causes : List (Bool × Code)) → first_cause (each_at byte causes) ≡ option_map (told byte) (first_cause causes)
first_at byte [] = refl
first_at byte ((true, c) ∷ causes) = refl
first_at byte ((false, c) ∷ causes) = first_at byte causes

-- a call that is refused, told at a byte
pub refused_at : {X : Type 0} (byte : ℕ) (r : Result X BayFault) (refusal : Refusal) (causes : List (Bool × Code)) → at_byte byte r ≡ Err refusal → refused r ≡ first_cause causes →
    first_cause (each_at byte causes) ≡ Some (told_by refusal)
refused_at byte (Ok x) refusal causes e h = absurd (let z : ◌≡◌ {A = ℕ} 0 1 = cc in omega arith)
refused_at byte (Err f) refusal causes e h =
    let same : ◌≡◌ {A = Refusal} (record { fault = Bay f; byte = byte }) refusal = cc in
    first_at byte causes ∙ ap (option_map (told byte)) (sym h) ∙ ap (λ x. Some (told_by x)) same

-- a call that is granted
pub granted_at : {X : Type 0} (byte : ℕ) (r : Result X BayFault) (x : X) (causes : List (Bool × Code)) → at_byte byte r ≡ Ok x → refused r ≡ first_cause causes →
    (r ≡ Ok x) × (first_cause causes ≡ None) × (first_cause (each_at byte causes) ≡ None)
granted_at byte (Ok y) x causes e h = (let same : y ≡ x = cc in ap Ok same, sym h, first_at byte causes ∙ ap (option_map (told byte)) (sym h))
granted_at byte (Err f) x causes e h = absurd (let z : ◌≡◌ {A = ℕ} 0 1 = cc in omega arith)

-- what comes after a call that no cause holds against
pub after_none : {X : Type 0} (v : Option Code) (x y : X) → v ≡ None → after v x y ≡ y
after_none None x y e = refl
after_none (Some c) x y e = absurd (let z : ◌≡◌ {A = ℕ} 0 1 = cc in omega arith)

-- a leg is booked where there is room for it
pub book_room : {C : Type 0} {K : Kind C} (p : Plain K) (a b : ℕ) → first_cause (book_causes p a b) ≡ None → length p.legs < most_legs
book_room p a b e = leb-false most_legs (length p.legs) (none_holds (book_causes p a b) e).1.1.0

-- one element more in the front of a place
pub front_more : {X : Type 0} (new : List X) (x : X) (old : List X) (n : ℕ) → n ≡ length new → n < length old → set (in_front new old) n x ≡ in_front (new ++ x ∷ []) old
front_more new x old n e h =
    ap (λ k. set (new ++ drop (length new) old) k x) e
    ∙ ap (λ t. set (new ++ t) (length new) x) (drop_more old (length new) x (omega (arith, e, h)))
    ∙ set_at new _ (drop (length new + 1) old) x (length new) refl
    ∙ sym (append_assoc new (x ∷ []) (drop (length new + 1) old))
    ∙ ap (λ k. (new ++ x ∷ []) ++ drop k old) (sym (length-append new (x ∷ [])))

-- cards and legs are due once every format has its code
pub orders_due : {C : Type 0} {K : Kind C} (R : ReadAs C) (codes : List (List ℕ)) (p : Plain K) (legs : ℕ) (stage : Stage) → p.register.size ≤ length codes → legs ≡ length p.legs → stage ≡ cond (eqb legs 0) (Cards R.kind) Legs →
    due R (said codes p) ≡ stage
orders_due R codes p legs stage h e s =
    cond-false (ltb (length codes) p.register.size) Formats (cond (eqb (length p.legs) 0) (Cards R.kind) Legs) (le-ltb _ _ h)
    ∙ ap (λ n. cond (eqb n 0) (Cards R.kind) Legs) (sym e) ∙ sym s

module _ {C : Type 0} (K : Kind C) (R : ReadAs C) (text : List ℕ) where
  module _ (s : Said K) (place : ℕ) (stage : Stage) (is_due : due R s ≡ stage) where
    pub unfit_line : (byte : ℕ) (t : Told) → IsRefused stage text place byte → t ≡ told byte (code Ticket 2 0) → LineRefused K R text s place t
    unfit_line byte t h e = inl (subst (λ x. IsRefused (due R s) text place x.byte) (sym e) (subst (λ x. IsRefused x text place byte) (sym is_due) h), ap (λ x. x.code) e)

    module _ (read : Read) (line : Line) (is_read : IsRead stage text place read) (line_is : read.line ≡ line) where
      pub passes_line : first_cause (line_causes K R s (length text) place line) ≡ None → Passes K R text s place read
      passes_line e = record {
        is_read = subst (λ x. IsRead x text place read) (sym is_due) is_read;
        no_cause = ap (λ l. first_cause (line_causes K R s (length text) place l)) line_is ∙ e;
      }

      pub refuses_line : (t : Told) → first_cause (line_causes K R s (length text) place line) ≡ Some t → LineRefused K R text s place t
      refuses_line t e = inr (read, subst (λ x. IsRead x text place read) (sym is_due) is_read, ap (λ l. first_cause (line_causes K R s (length text) place l)) line_is ∙ e)

  module _ (p p' : Plain K) (place : ℕ) (stage : Stage) (legs : ℕ) (legs_are : legs ≡ length p.legs) (stage_is : stage ≡ cond (eqb legs 0) (Cards R.kind) Legs) (read : Read) (is_read : IsRead stage text place read) (ends ends' : List Ends) where
    is_due : (codes : List (List ℕ)) → p.register.size ≤ length codes → due R (said codes p) ≡ stage
    is_due codes h = orders_due R codes p legs stage h legs_are stage_is

    -- a leg is booked
    pub leg_taken : (a b : ℕ) (n : ℕ) → read.line ≡ Leg a b → first_cause (book_causes p a b) ≡ None → first_cause (each_at place (book_causes p a b)) ≡ None →
        p' ≡ step p (Book a b) → n ≡ length p.legs → ends' ≡ set ends n (record { from = a; to = b }) →
        OrderTaken K R text place p p' ends ends' (record { place = read.end; legs = n + 1 })
    leg_taken a b n line_is none none_at after_is n_is written =
        let leg : Ends = record { from = a; to = b } in
        let now_is : p' ≡ with_legs p (p.legs ++ leg ∷ []) = after_is ∙ after_none _ p _ none in
        record {
          read = read;
          passes = λ codes h. passes_line (said codes p) place stage (is_due codes h) read (Leg a b) is_read line_is none_at;
          more = subst More (sym line_is) tt;
          adds_it = λ codes. ap (adds K R (said codes p)) line_is ∙ ap (said codes) (sym after_is);
          size = ap (λ x. x.register.size) now_is;
          written = λ base long e.
              written ∙ ap (λ x. set x n leg) e ∙ front_more p.legs leg base n n_is (omega (arith, long, n_is, book_room p a b none)) ∙ ap (λ x. in_front x.legs base) (sym now_is);
          place_is = refl;
          legs_are = omega (arith, n_is, length-append p.legs (leg ∷ []), ap (λ x. length x.legs) now_is);
        }

    pub card_refused : (a b : ℕ) (z : Amount) (cost : C) (refusal : Refusal) → read.line ≡ Card a b z → cost ≡ R.cost_of z →
        first_cause (each_at place (enter_causes p.register a b (admits K cost))) ≡ Some (told_by refusal) →
        (codes : List (List ℕ)) → p.register.size ≤ length codes → LineRefused K R text (said codes p) place (told_by refusal)
    card_refused a b z cost refusal line_is cost_is told_is codes h =
        refuses_line (said codes p) place stage (is_due codes h) read (Card a b z) is_read line_is (told_by refusal) (ap (λ x. first_cause (each_at place (enter_causes p.register a b (admits K x)))) (sym cost_is) ∙ told_is)

    pub leg_refused : (a b : ℕ) (refusal : Refusal) → read.line ≡ Leg a b → first_cause (each_at place (book_causes p a b)) ≡ Some (told_by refusal) →
        (codes : List (List ℕ)) → p.register.size ≤ length codes → LineRefused K R text (said codes p) place (told_by refusal)
    leg_refused a b refusal line_is told_is codes h = refuses_line (said codes p) place stage (is_due codes h) read (Leg a b) is_read line_is (told_by refusal) told_is

  module _ (from : ℕ) (p p' : Plain K) (ends ends' : List Ends) (at : Progress) (taken : OrdersTaken K R text from p p' ends ends' at) where
    as_many : (codes : List (List ℕ)) → p.register.size ≤ length codes → p'.register.size ≤ length codes
    as_many codes h = subst (λ n. n ≤ length codes) (sym taken.size) h

    -- one card or leg more
    pub orders_more : (p'' : Plain K) (ends'' : List Ends) (next : Progress) → length ends ≡ most_legs → OrderTaken K R text at.place p' p'' ends' ends'' next →
        OrdersTaken K R text from p p'' ends ends'' next
    orders_more p'' ends'' next long r = record {
      lines = taken.lines ++ r.read ∷ [];
      through = λ codes h.
          subst (λ e. Through K R text (said codes p) from (taken.lines ++ r.read ∷ []) e (said codes p'')) (sym r.place_is)
          (subst (Through K R text (said codes p) from (taken.lines ++ r.read ∷ []) r.read.end) (r.adds_it codes)
          (through_more K R text (said codes p) from taken.lines at.place (said codes p') r.read (taken.through codes h) (r.passes codes (as_many codes h)) r.more));
      size = r.size ∙ taken.size;
      written = r.written ends long taken.written;
      legs_are = r.legs_are;
    }

    pub orders_stop : (t : Told) → OnceCoded K R text p' (λ codes. LineRefused K R text (said codes p') at.place t) → OnceCoded K R text p (λ codes. Stops K R text (said codes p) from t)
    orders_stop t r codes h = record { lines = taken.lines; place = at.place; then = said codes p'; through = taken.through codes h; refused = r codes (as_many codes h) }

  -- each line takes the text further
  pub order_advances : (place : ℕ) (p p' : Plain K) (ends ends' : List Ends) (next : Progress) → OrderTaken K R text place p p' ends ends' next → (place < next.place) × (next.place ≤ length text)
  order_advances place p p' ends ends' next r =
      let codes : List (List ℕ) = replicate p.register.size [] in
      let many : length codes ≡ p.register.size = length-replicate p.register.size [] in
      let is_read = (r.passes codes (omega (arith, many))).is_read in
      (omega (arith, read_advances is_read, r.place_is), omega (arith, read_within is_read, r.place_is))
