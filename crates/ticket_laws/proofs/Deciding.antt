-- The lines of a text pass in one way only, and what comes after them is told in one way only.
use Rattle.std.proofs.Common.{◌≡◌, ℕ, ◌⊎◌, List, [], ◌∷◌, length, Some, None, Ok, Err, Option, Result, sym, refl, ap, ◌∙◌, subst, inl, inr, arith}
use Rattle.costs.specs.declared.Cost.{Ghosts as Kind}
use Rattle.costs.specs.Algebra.{Algebra}
use Rattle.registers.specs.Fault.{first_cause}
use Rattle.registers.specs.Meaning.{standing}
use Rattle.registers.specs.declared.fault.Code.{Code}
use Rattle.walks.specs.Walk.{Gains}
use Rattle.bay.proofs.BothWays.{looped_gains}
use Rattle.bay.specs.Faults.{bay_code, refused}
use Rattle.bay.specs.Plain.{Plain}
use Rattle.bay.specs.Routes.{LoopIn}
use Rattle.bay.specs.Buffers.{Buffers}
use Rattle.bay.specs.Routing.{RouteAnswer}
use Rattle.bay.specs.declared.fault.BayFault.{BayFault}
use Rattle.bay.specs.declared.legs.Leg.{Leg}
use Rattle.lines.proofs.Places.{one_answer}
use Rattle.lines.specs.Grammar.{IsRead, IsRefused}
use Rattle.lines.specs.declared.line.Line.{Line}
use Rattle.lines.specs.declared.line.Line.TheVariants.{Bay, End}
use Rattle.lines.specs.declared.line.Read.{Read}
use Rattle.lines.specs.declared.line.Stage.{Stage}
use Rattle.lines.specs.declared.line.Stage.TheVariants.{Start}
use Rattle.lines.specs.declared.line.Unfit.{Unfit}
use Rattle.ticket.specs.Kinds.{ReadAs}
use Rattle.ticket.specs.Answers.{BayPasses, BayRefused, Contents, KindAnswer, LinesAnswer, TicketRefused, TicketRouted}
use Rattle.ticket.specs.declared.serve.BayLine.{BayLine}
use Rattle.ticket_laws.specs.Verdict.{OneFirstLine, tells}
use Rattle.ticket.specs.Faults.{Told, told, told_by, at_byte}
use Rattle.ticket.specs.Said.{Said, begins, due, adds, line_causes, Passes, More, Through, LineRefused}
use Rattle.ticket.specs.declared.fault.Refusal.{Refusal}

-- a place has one line, or none
pub one_read : (stage : Stage) (text : List ℕ) (from : ℕ) (a b : Read) → IsRead stage text from a → IsRead stage text from b → a ≡ b
one_read stage text from a b g h = let e = one_answer stage text from (Ok a) (Ok b) g h in cc

pub one_byte : (stage : Stage) (text : List ℕ) (from p q : ℕ) → IsRefused stage text from p → IsRefused stage text from q → p ≡ q
one_byte stage text from p q g h =
    let e = one_answer stage text from (Err (record { byte = p })) (Err (record { byte = q })) g h in
    let same : ◌≡◌ {A = Unfit} (record { byte = p }) (record { byte = q }) = cc in
    ap (λ u. u.byte) same

pub not_both : (stage : Stage) (text : List ℕ) (from : ℕ) (a : Read) (p : ℕ) → IsRead stage text from a → IsRefused stage text from p → ⊥
not_both stage text from a p g h = let e = one_answer stage text from (Ok a) (Err (record { byte = p })) g h in let z : ◌≡◌ {A = ℕ} 0 1 = cc in omega arith

pub none≢some : {X : Type 0} (o : Option X) (x : X) → o ≡ None → o ≡ Some x → ⊥
none≢some o x e f = let z : ◌≡◌ {A = ℕ} 0 1 = cc in omega arith

pub same_some : {X : Type 0} (o : Option X) (x y : X) → o ≡ Some x → o ≡ Some y → x ≡ y
same_some o x y e f = cc

module _ {C : Type 0} (K : Kind C) (R : ReadAs C) (text : List ℕ) where
  -- no other line follows here: the line is refused, or it is the end line
  abbrev pub Final : Said K → ℕ → Type 0
  Final s from = ((t : Told) × LineRefused K R text s from t) ⊎ ((read : Read) × Passes K R text s from read × (read.line ≡ End))

  -- a line that is refused does not pass
  pub refused_not_passed : (s : Said K) (from : ℕ) (t : Told) (read : Read) → LineRefused K R text s from t → Passes K R text s from read → ⊥
  refused_not_passed s from t read (inl h) p = not_both (due R s) text from read t.byte p.is_read h.0
  refused_not_passed s from t read (inr h) p =
      let e = one_read (due R s) text from read h.0 p.is_read h.1 in
      none≢some _ t p.no_cause (ap (λ r. first_cause (line_causes K R s (length text) from r.line)) e ∙ h.2)

  final_not_more : (s : Said K) (from : ℕ) (read : Read) → Final s from → Passes K R text s from read → More read.line → ⊥
  final_not_more s from read (inl h) p m = refused_not_passed s from h.0 read h.1 p
  final_not_more s from read (inr h) p m =
      let e = one_read (due R s) text from read h.0 p.is_read h.1.is_read in
      subst More (ap (λ r. r.line) e ∙ h.2) m

  -- two ways through the lines come to the same place
  pub one_way : (s : Said K) (from : ℕ) (lines lines' : List Read) (place place' : ℕ) (then then' : Said K) →
      Through K R text s from lines place then → Through K R text s from lines' place' then' → Final then place → Final then' place' → (place ≡ place') × (then ≡ then')
  one_way s from [] [] place place' then then' t u f g = (sym t.0 ∙ u.0, sym t.1 ∙ u.1)
  one_way s from [] (r ∷ lines') place place' then then' t u f g =
      absurd (final_not_more s from r (subst (λ x. Final x from) (sym t.1) (subst (Final then) (sym t.0) f)) u.0 u.1)
  one_way s from (r ∷ lines) [] place place' then then' t u f g =
      absurd (final_not_more s from r (subst (λ x. Final x from) (sym u.1) (subst (Final then') (sym u.0) g)) t.0 t.1)
  one_way s from (r ∷ lines) (r' ∷ lines') place place' then then' t u f g =
      let e : r' ≡ r = one_read (due R s) text from r' r u.0.is_read t.0.is_read in
      one_way (adds K R s r.line) r.end lines lines' place place' then then' t.2
      (subst (λ x. Through K R text (adds K R s x.line) x.end lines' place' then') e u.2) f g

  -- a refused line is told in one way
  pub one_told : (s : Said K) (from : ℕ) (t u : Told) → LineRefused K R text s from t → LineRefused K R text s from u → t ≡ u
  one_told s from t u (inl h) (inl k) =
      let e = one_byte (due R s) text from t.byte u.byte h.0 k.0 in
      let f : t.code ≡ u.code = h.1 ∙ sym k.1 in
      λ i. record { code = f i; byte = e i }
  one_told s from t u (inl h) (inr k) = absurd (not_both (due R s) text from k.0 t.byte k.1 h.0)
  one_told s from t u (inr h) (inl k) = absurd (not_both (due R s) text from h.0 u.byte h.1 k.0)
  one_told s from t u (inr h) (inr k) =
      let e = one_read (due R s) text from k.0 h.0 k.1 h.1 in
      same_some _ t u h.2 (sym (ap (λ r. first_cause (line_causes K R s (length text) from r.line)) e) ∙ k.2)

-- what an answer tells
abbrev pub outcome : Result ℕ BayFault → Result ℕ Code
outcome (Ok n) = Ok n
outcome (Err f) = Err (bay_code f)

-- the same with the byte of its line
abbrev at_place : ℕ → Result ℕ Code → Result ℕ Told
at_place byte (Ok n) = Ok n
at_place byte (Err c) = Err (told byte c)

tells_at : (byte : ℕ) (r : Result ℕ BayFault) → tells (at_byte byte r) ≡ at_place byte (outcome r)
tells_at byte (Ok n) = refl
tells_at byte (Err f) = refl

refused_outcome : (r : Result ℕ BayFault) (c : Code) → refused r ≡ Some c → outcome r ≡ Err c
refused_outcome (Ok n) c e = absurd (let z : ◌≡◌ {A = ℕ} 0 1 = cc in omega arith)
refused_outcome (Err f) c e = let same : bay_code f ≡ c = cc in ap Err same

module _ {C : Type 0} (K : Kind C) where
  -- a route is told in one way, whatever it leaves
  one_outcome : (p : Plain K) (legs legs' noted noted' : List Leg) (m m' m'' : Buffers C) (r r' : Result ℕ BayFault) → RouteAnswer p legs noted m m' r → RouteAnswer p legs' noted' m m'' r' → outcome r ≡ outcome r'
  one_outcome p legs legs' noted noted' m m' m'' r r' (inl t) (inl u) =
      refused_outcome r t.cause t.answers ∙ ap Err (same_some _ t.cause u.cause t.holds u.holds) ∙ sym (refused_outcome r' u.cause u.answers)
  one_outcome p legs legs' noted noted' m m' m'' r r' (inl t) (inr (inl u)) = absurd (none≢some _ t.cause u.no_cause t.holds)
  one_outcome p legs legs' noted noted' m m' m'' r r' (inl t) (inr (inr u)) = absurd (none≢some _ t.cause u.no_cause t.holds)
  one_outcome p legs legs' noted noted' m m' m'' r r' (inr (inl t)) (inl u) = absurd (none≢some _ u.cause t.no_cause u.holds)
  one_outcome p legs legs' noted noted' m m' m'' r r' (inr (inr t)) (inl u) = absurd (none≢some _ u.cause t.no_cause u.holds)
  one_outcome p legs legs' noted noted' m m' m'' r r' (inr (inl t)) (inr (inl u)) = ap outcome (t.answers ∙ sym u.answers)
  one_outcome p legs legs' noted noted' m m' m'' r r' (inr (inl t)) (inr (inr u)) = absurd (u.no_loop (looped_gains K.algebra (standing p.register) _ t.loop))
  one_outcome p legs legs' noted noted' m m' m'' r r' (inr (inr t)) (inr (inl u)) = absurd (t.no_loop (looped_gains K.algebra (standing p.register) _ u.loop))
  one_outcome p legs legs' noted noted' m m' m'' r r' (inr (inr t)) (inr (inr u)) = ap outcome (t.answers ∙ sym u.answers)

  module _ (R : ReadAs C) (text : List ℕ) (from : ℕ) (m : Contents C) where
    refused_not_routed : (s : Said K) (m' m'' : Contents C) (a b : Result ℕ Refusal) → TicketRefused K R text from m m' a s → TicketRouted K R text from m m'' b s → ⊥
    refused_not_routed s m' m'' a b t u =
        let t_stops = t.stops in
        let u_ends = u.completes in
        let same = one_way K R text s from t_stops.lines u_ends.lines t_stops.place u.place t_stops.then u.then t_stops.through u_ends.through
        (inl (told_by t.refusal, t_stops.refused)) (inr (u_ends.last, u_ends.passes, u_ends.is_end)) in
        refused_not_passed K R text t_stops.then t_stops.place (told_by t.refusal) u_ends.last t_stops.refused
        (subst (λ x. Passes K R text x t_stops.place u_ends.last) (sym same.1) (subst (λ x. Passes K R text u.then x u_ends.last) (sym same.0) u_ends.passes))

    module _ (m' m'' : Contents C) (answer other : Result ℕ Refusal) where
      pub one_of_lines : (s : Said K) → LinesAnswer K R text from m m' answer s → LinesAnswer K R text from m m'' other s → tells answer ≡ tells other
      one_of_lines s (inl t) (inl u) =
          let same = one_way K R text s from t.stops.lines u.stops.lines t.stops.place u.stops.place t.stops.then u.stops.then t.stops.through u.stops.through
          (inl (told_by t.refusal, t.stops.refused)) (inl (told_by u.refusal, u.stops.refused)) in
          let told_same = one_told K R text t.stops.then t.stops.place (told_by t.refusal) (told_by u.refusal) t.stops.refused
          (subst (λ x. LineRefused K R text x t.stops.place (told_by u.refusal)) (sym same.1) (subst (λ x. LineRefused K R text u.stops.then x (told_by u.refusal)) (sym same.0) u.stops.refused)) in
          ap tells t.answers ∙ ap Err told_same ∙ sym (ap tells u.answers)
      one_of_lines s (inl t) (inr u) = absurd (refused_not_routed s m' m'' answer other t u)
      one_of_lines s (inr t) (inl u) = absurd (refused_not_routed s m'' m' other answer u t)
      one_of_lines s (inr t) (inr u) =
          let same = one_way K R text s from t.completes.lines u.completes.lines t.place u.place t.then u.then t.completes.through u.completes.through
          (inr (t.completes.last, t.completes.passes, t.completes.is_end)) (inr (u.completes.last, u.completes.passes, u.completes.is_end)) in
          let route = subst (λ x. RouteAnswer x.plain u.legs u.noted m.buffers m''.buffers u.result) (sym same.1) u.route in
          ap tells t.answers ∙ tells_at t.place t.result
          ∙ ap (at_place t.place) (one_outcome t.then.plain t.legs u.legs t.noted u.noted m.buffers m'.buffers m''.buffers t.result u.result t.route route)
          ∙ ap (λ x. at_place x (outcome u.result)) same.0 ∙ sym (ap tells u.answers ∙ tells_at u.place u.result)

      pub one_of_kind : (n : ℕ) → KindAnswer K R text from m m' answer n → KindAnswer K R text from m m'' other n → tells answer ≡ tells other
      one_of_kind n t u = go t.answered u.answered
        where
          go : (BayRefused K R text from m m' answer n ⊎ BayPasses K R text from m m' answer n) → (BayRefused K R text from m m'' other n ⊎ BayPasses K R text from m m'' other n) → tells answer ≡ tells other
          go (inl a) (inl b) = ap tells a.answers ∙ ap Err (same_some _ (told_by a.refusal) (told_by b.refusal) a.cause b.cause) ∙ sym (ap tells b.answers)
          go (inl a) (inr b) = absurd (none≢some _ (told_by a.refusal) b.no_cause a.cause)
          go (inr a) (inl b) = absurd (none≢some _ (told_by b.refusal) a.no_cause b.cause)
          go (inr a) (inr b) = one_of_lines (begins n) a.lines b.lines

-- a text is over-long or not, and it has a bay line or not
pub one_first_line : OneFirstLine
one_first_line text (Ok bay) (Ok other) t u =
    let read_same = one_read Start text 0 u.read t.read u.is_read t.is_read in
    let line_same : ◌≡◌ {A = Line} (Bay other.kind other.size) (Bay bay.kind bay.size) = sym u.line_is ∙ ap (λ r. r.line) read_same ∙ t.line_is in
    let kind_same : bay.kind ≡ other.kind = cc in
    let size_same : bay.size ≡ other.size = cc in
    let end_same : bay.end ≡ other.end = sym t.end_is ∙ sym (ap (λ r. r.end) read_same) ∙ u.end_is in
    λ i. Ok (record { kind = kind_same i; size = size_same i; end = end_same i })
one_first_line text (Ok bay) (Err r) t (inl u) = absurd (omega (arith, t.short, u.long))
one_first_line text (Ok bay) (Err r) t (inr u) = absurd (not_both Start text 0 t.read r.byte t.is_read u.refused)
one_first_line text (Err r) (Ok bay) (inl t) u = absurd (omega (arith, t.long, u.short))
one_first_line text (Err r) (Ok bay) (inr t) u = absurd (not_both Start text 0 u.read r.byte u.is_read t.refused)
one_first_line text (Err r) (Err q) (inl t) (inl u) = ap (λ x. Err (told_by x)) (t.told ∙ sym u.told)
one_first_line text (Err r) (Err q) (inl t) (inr u) = absurd (omega (arith, t.long, u.short))
one_first_line text (Err r) (Err q) (inr t) (inl u) = absurd (omega (arith, t.short, u.long))
one_first_line text (Err r) (Err q) (inr t) (inr u) =
    let fault_same : r.fault ≡ q.fault = t.unfit ∙ sym u.unfit in
    let byte_same = one_byte Start text 0 r.byte q.byte t.refused u.refused in
    λ i. Err (told_by (record { fault = fault_same i; byte = byte_same i }))
