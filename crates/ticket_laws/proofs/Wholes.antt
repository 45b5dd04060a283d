-- The lines of a granted ticket are format lines, card lines, leg lines and the end line, in this order, and the plain bay that
-- they make has the cards and the legs that they say.
use Rattle.std.proofs.Common.{◌≡◌, ℕ, suc, ◌+◌, ◌<◌, ◌≤◌, Bool, true, false, cond, ◌&&◌, eqb, ◌⊎◌, List, [], ◌∷◌, ◌++◌, map, length, get_or, drop, Some, None, Ok, Err, Option, Result, sym, refl, ap, ◌∙◌, subst, subst₂, inl, inr, add-one, arith, length-append}
use Rattle.std.proofs.lemmas.List.{append_assoc, append-nil, drop_all, flat_map_more}
use Rattle.std.proofs.lemmas.Bool.{and_from, and_parts, cases_lt, cond-false, cond-true, eqb-true, ltb-false, ne_eqb, not-false, not_from_false}
use Rattle.std.specs.Option.{option_map}
use Rattle.std.specs.List.{AllByRecursion, flat_map}
use Rattle.costs.specs.Kind.{admits}
use Rattle.costs.specs.declared.Cost.{Ghosts as Kind}
use Rattle.costs.specs.Algebra.{Algebra}
use Rattle.costs.specs.Delay.{delay}
use Rattle.costs.specs.Depth.{depth, bits}
use Rattle.registers.specs.Fault.{code, first_cause}
use Rattle.registers.specs.Meaning.{Meaning, enter_causes, entered, standing, pair}
use Rattle.registers.specs.declared.fault.Code.{Code}
use Rattle.registers.specs.declared.fault.Layer.TheVariants.{Bay as BayLayer}
use Rattle.bay.specs.Sheet.{row_at}
use Rattle.walks.specs.Walk.{Gains}
use Rattle.bay.specs.Faults.{refused}
use Rattle.bay.specs.Plain.{Plain, book_causes, step, with_register, with_legs}
use Rattle.bay.specs.Routes.{LeastChains}
use Rattle.bay.specs.Buffers.{Buffers}
use Rattle.bay.specs.Routing.{Granted, RouteAnswer}
use Rattle.bay.specs.declared.calls.Call.TheVariants.{Enter, Book}
use Rattle.bay.specs.declared.fault.BayFault.{BayFault}
use Rattle.bay.specs.declared.legs.Ends.{Ends}
use Rattle.bay.specs.declared.legs.Leg as booked
use Rattle.lent.specs.Lent.{begun, size_fits}
use Rattle.lent.specs.List.{or_else}
use Rattle.lines.specs.Grammar.{Allowed, AmountOf, IsRead, line_text}
use Rattle.lines.specs.declared.line.Amount.{Amount}
use Rattle.lines.specs.declared.line.Kind.{Kind as KindName}
use Rattle.lines.specs.declared.line.Kind.TheVariants as kinds
use Rattle.lines.specs.declared.line.Line.{Line}
use Rattle.lines.specs.declared.line.Line.TheVariants.{Bay, Format, Card, Leg, End}
use Rattle.lines.specs.declared.line.Read.{Read}
use Rattle.lines.specs.declared.line.Stage.TheVariants.{Start, Formats, Cards, Legs}
use Rattle.ticket.specs.Answers.{Contents, HasBay, KindAnswer, LinesAnswer}
use Rattle.ticket.specs.declared.serve.BayLine.{BayLine}
use Rattle.ticket.specs.Faults.{told, at_byte}
use Rattle.ticket.specs.Kinds.{ReadAs, read_as}
use Rattle.ticket.specs.Said.{Said, said, begins, due, adds, each_at, line_causes, ticket_entries, More, Through, Completes}
use Rattle.ticket_laws.specs.Whole.{CardSaid, card_line, leg_line, format_lines, last_cost, cards_said, Whole}
use Rattle.ticket.specs.declared.fault.Refusal.{Refusal}
use Rattle.ticket.proofs.Passing.{formats_due}
use Rattle.ticket.proofs.Serving.{bay_fits, nearest_is}
use Rattle.ticket.proofs.Taking.{first_at, after_none, none_holds, orders_due}

abbrev line_of : Read → Line
line_of r = r.line

-- a granted call is not refused
not_refused : (place : ℕ) (r : Result ℕ BayFault) (c : Code) {count : ℕ} → Ok count ≡ at_byte place r → refused r ≡ Some c → ⊥
not_refused place (Ok n) c e h = let z : ◌≡◌ {A = ℕ} 0 1 = cc in omega arith
not_refused place (Err f) c e h = let z : ◌≡◌ {A = ℕ} 0 1 = cc in omega arith

ok_same : {E : Type 0} (a b : ℕ) → ◌≡◌ {A = Result ℕ E} (Ok a) (Ok b) → a ≡ b
ok_same a b e = cc

-- a call that no cause holds against
none_at : (byte : ℕ) (causes : List (Bool × Code)) → first_cause (each_at byte causes) ≡ None → first_cause causes ≡ None
none_at byte causes e = go (first_cause causes) (sym (first_at byte causes) ∙ e)
  where
    go : (o : Option Code) → option_map (told byte) o ≡ None → o ≡ None
    go None h = refl
    go (Some c) h = absurd (let z : ◌≡◌ {A = ℕ} 0 1 = cc in omega arith)

module _ {C : Type 0} (K : Kind C) (R : ReadAs C) (text : List ℕ) where
  -- the text from one place to another is that of the lines between them
  pub through_text : (s : Said K) (from : ℕ) (lines : List Read) (place : ℕ) (then : Said K) → Through K R text s from lines place then →
      drop from text ≡ flat_map line_text (map line_of lines) ++ drop place text
  through_text s from [] place then t = ap (λ n. drop n text) t.0
  through_text s from (r ∷ lines) place then t =
      t.0.is_read.whole
      ∙ ap (λ bs. line_text r.line ++ bs) (through_text (adds K R s r.line) r.end lines place then t.2)
      ∙ sym (append_assoc (line_text r.line) (flat_map line_text (map line_of lines)) (drop place text))

  -- legs alone
  pub record LegsSaid (codes : List (List ℕ)) (p : Plain K) (lines : List Line) (then : Said K) : Type 0 where
    pub legs : List Ends
    pub lines_are : lines ≡ map leg_line legs
    pub then_is : then ≡ said codes (with_legs p (p.legs ++ legs))

  leg_line_due : (codes : List (List ℕ)) (p : Plain K) → p.register.size ≤ length codes → 0 < length p.legs → due R (said codes p) ≡ Legs
  leg_line_due codes p h some = orders_due R codes p (length p.legs) Legs h refl (sym (cond-false _ _ _ (ne_eqb (length p.legs) 0 (λ e. omega (arith, e, some)))))

  allowed_leg : (l : Line) → Allowed Legs l → More l → (a : ℕ) × (b : ℕ) × (l ≡ Leg a b)
  allowed_leg (Bay kind n) h m = absurd h
  allowed_leg (Format k code) h m = absurd h
  allowed_leg (Card a b cost) h m = absurd h
  allowed_leg (Leg a b) h m = (a, b, refl)
  allowed_leg End h m = absurd m

  booked_is : (p : Plain K) (a b byte : ℕ) → first_cause (each_at byte (book_causes p a b)) ≡ None → step p (Book a b) ≡ with_legs p (p.legs ++ record { from = a; to = b } ∷ [])
  booked_is p a b byte e = after_none (first_cause (book_causes p a b)) p _ (none_at byte (book_causes p a b) e)

  legs_said : (codes : List (List ℕ)) (p : Plain K) (from : ℕ) (lines : List Read) (place : ℕ) (then : Said K) → p.register.size ≤ length codes → 0 < length p.legs →
      Through K R text (said codes p) from lines place then → LegsSaid codes p (map line_of lines) then
  legs_said codes p from [] place then h some t = record { legs = []; lines_are = refl; then_is = sym t.1 ∙ ap (λ l. said codes (with_legs p l)) (sym (append-nil p.legs)) }
  legs_said codes p from (r ∷ lines) place then h some t =
      let is = allowed_leg r.line (subst (λ stage. Allowed stage r.line) (leg_line_due codes p h some) t.0.is_read.allowed) t.1 in
      let leg : Ends = record { from = is.0; to = is.1 } in
      let p' : Plain K = with_legs p (p.legs ++ leg ∷ []) in
      let none = ap (λ l. first_cause (line_causes K R (said codes p) (length text) from l)) (sym is.2) ∙ t.0.no_cause in
      let next : adds K R (said codes p) r.line ≡ said codes p' = ap (adds K R (said codes p)) is.2 ∙ ap (said codes) (booked_is p is.0 is.1 from none) in
      let rest = legs_said codes p' r.end lines place then h (omega (arith, length-append p.legs (leg ∷ []))) (subst (λ s. Through K R text s r.end lines place then) next t.2) in
      record {
        legs = leg ∷ rest.legs;
        lines_are = ap (λ l. l ∷ map line_of lines) is.2 ∙ ap (λ ls. Leg is.0 is.1 ∷ ls) rest.lines_are;
        then_is = rest.then_is ∙ ap (λ l. said codes (with_legs p l)) (append_assoc p.legs (leg ∷ []) rest.legs);
      }

  -- each card has a cost as the kind has it
  abbrev pub OfKind : List CardSaid → Type 0
  OfKind cards = AllByRecursion (λ card. AmountOf R.kind card.cost) cards

  -- cards and then legs; the cards stand over those that stood before
  pub record OrdersSaid (codes : List (List ℕ)) (p : Plain K) (lines : List Line) (then : Said K) : Type 0 where
    pub cards : List CardSaid
    pub of_kind : OfKind cards
    pub legs : List Ends
    pub lines_are : lines ≡ map card_line cards ++ map leg_line legs
    pub codes_are : then.codes ≡ codes
    pub legs_are : then.plain.legs ≡ legs
    pub size : then.plain.register.size ≡ p.register.size
    pub stand : (a b : ℕ) → standing then.plain.register a b ≡ or_else (cards_said K R.cost_of cards a b) (standing p.register a b)

  entered_is : (p : Plain K) (a b : ℕ) (x : C) (byte : ℕ) → first_cause (each_at byte (enter_causes p.register a b (admits K x))) ≡ None →
      step p (Enter a b x) ≡ with_register p (entered p.register a b (K.value x))
  entered_is p a b x byte e = after_none (first_cause (enter_causes p.register a b (admits K x))) p _ (none_at byte (enter_causes p.register a b (admits K x)) e)

  -- a card that is entered stands, and all others as they did
  entered_stands : (m : Meaning K.algebra.Value) (a b : ℕ) (x : K.algebra.Value) (admitted : Bool) → first_cause (enter_causes m a b admitted) ≡ None → (c d : ℕ) →
      standing (entered m a b x) c d ≡ or_else (cond (eqb a c && eqb b d) (Some x) None) (standing m c d)
  entered_stands m a b x admitted e c d = go (eqb a c && eqb b d) refl
    where
      go : (k : Bool) → (eqb a c && eqb b d) ≡ k → cond (pair m c d) (cond k (Some x) (m.cards c d)) None ≡ or_else (cond k (Some x) None) (standing m c d)
      go true h =
          let none = none_holds (enter_causes m a b admitted) e in
          let same = and_parts (eqb a c) (eqb b d) h in
          cond-true _ _ _ (subst₂ (λ y z. pair m y z ≡ true) (eqb-true a c same.0) (eqb-true b d same.1)
          (and_from _ _ (not-false _ none.0) (and_from _ _ (not-false _ none.1.0) (not_from_false _ none.1.1.0))))
      go false h = refl

  or_else_assoc : (o p q : Option K.algebra.Value) → or_else o (or_else p q) ≡ or_else (or_else o p) q
  or_else_assoc None p q = refl
  or_else_assoc (Some x) p q = refl

  said_first : (card : CardSaid) (cards : List CardSaid) (a b : ℕ) →
      or_else (cards_said K R.cost_of cards a b) (cond (eqb card.from a && eqb card.to b) (Some (K.value (R.cost_of card.cost))) None) ≡ cards_said K R.cost_of (card ∷ cards) a b
  said_first card cards a b = go (last_cost cards a b) (eqb card.from a && eqb card.to b)
    where
      go : (o : Option Amount) (k : Bool) → or_else (option_map (λ z. K.value (R.cost_of z)) o) (cond k (Some (K.value (R.cost_of card.cost))) None) ≡ option_map (λ z. K.value (R.cost_of z)) (or_else o (cond k (Some card.cost) None))
      go None true = refl
      go None false = refl
      go (Some z) k = refl

  card_line_due : (codes : List (List ℕ)) (p : Plain K) → p.register.size ≤ length codes → p.legs ≡ [] → due R (said codes p) ≡ Cards R.kind
  card_line_due codes p h none = orders_due R codes p 0 (Cards R.kind) h (ap length (sym none)) refl

  allowed_card : (l : Line) → Allowed (Cards R.kind) l → More l → ((card : CardSaid) × AmountOf R.kind card.cost × (l ≡ card_line card)) ⊎ ((leg : Ends) × (l ≡ leg_line leg))
  allowed_card (Bay kind n) h m = absurd h
  allowed_card (Format k code) h m = absurd h
  allowed_card (Card a b cost) h m = inl (record { from = a; to = b; cost = cost }, h.2, refl)
  allowed_card (Leg a b) h m = inr (record { from = a; to = b }, refl)
  allowed_card End h m = absurd m

  orders_said : (codes : List (List ℕ)) (p : Plain K) (from : ℕ) (lines : List Read) (place : ℕ) (then : Said K) → p.register.size ≤ length codes → p.legs ≡ [] →
      Through K R text (said codes p) from lines place then → OrdersSaid codes p (map line_of lines) then
  orders_said codes p from [] place then h none t = record {
    cards = [];
    of_kind = tt;
    legs = [];
    lines_are = refl;
    codes_are = ap (λ s. s.codes) (sym t.1);
    legs_are = ap (λ s. s.plain.legs) (sym t.1) ∙ none;
    size = ap (λ s. s.plain.register.size) (sym t.1);
    stand = λ a b. ap (λ s. standing s.plain.register a b) (sym t.1);
  }
  orders_said codes p from (r ∷ lines) place then h none t = elim (allowed_card r.line (subst (λ stage. Allowed stage r.line) (card_line_due codes p h none) t.0.is_read.allowed) t.1) [
    | inl is ↦ card_first (λ q size empty u. orders_said codes q r.end lines place then size empty u) is.0 is.1 is.2
    | inr is ↦ leg_first is.0 is.1
  ]
    where
      no_cause_at : (l : Line) → r.line ≡ l → first_cause (line_causes K R (said codes p) (length text) from l) ≡ None
      no_cause_at l e = ap (λ x. first_cause (line_causes K R (said codes p) (length text) from x)) (sym e) ∙ t.0.no_cause

      card_first :
          ((q : Plain K) → q.register.size ≤ length codes → q.legs ≡ [] → Through K R text (said codes q) r.end lines place then → OrdersSaid codes q (map line_of lines) then) →
          (card : CardSaid) → AmountOf R.kind card.cost → r.line ≡ card_line card → OrdersSaid codes p (map line_of (r ∷ lines)) then
      card_first go_on card fits e =
          let x : C = R.cost_of card.cost in
          let p' : Plain K = with_register p (entered p.register card.from card.to (K.value x)) in
          let next : adds K R (said codes p) r.line ≡ said codes p' =
          ap (adds K R (said codes p)) e ∙ ap (said codes) (entered_is p card.from card.to x from (no_cause_at (card_line card) e)) in
          let rest = go_on p' h none (subst (λ s. Through K R text s r.end lines place then) next t.2) in
          let none_enter = none_at from (enter_causes p.register card.from card.to (admits K x)) (no_cause_at (card_line card) e) in
          record {
            cards = card ∷ rest.cards;
            of_kind = (fits, rest.of_kind);
            legs = rest.legs;
            lines_are = ap (λ l. l ∷ map line_of lines) e ∙ ap (λ ls. card_line card ∷ ls) rest.lines_are;
            codes_are = rest.codes_are;
            legs_are = rest.legs_are;
            size = rest.size;
            stand = λ a b. rest.stand a b
                ∙ ap (or_else (cards_said K R.cost_of rest.cards a b)) (entered_stands p.register card.from card.to (K.value x) (admits K x) none_enter a b)
                ∙ or_else_assoc (cards_said K R.cost_of rest.cards a b) (cond (eqb card.from a && eqb card.to b) (Some (K.value x)) None) (standing p.register a b)
                ∙ ap (λ o. or_else o (standing p.register a b)) (said_first card rest.cards a b);
          }

      leg_first : (leg : Ends) → r.line ≡ leg_line leg → OrdersSaid codes p (map line_of (r ∷ lines)) then
      leg_first leg e =
          let p' : Plain K = with_legs p (p.legs ++ leg ∷ []) in
          let next : adds K R (said codes p) r.line ≡ said codes p' =
          ap (adds K R (said codes p)) e ∙ ap (said codes) (booked_is p leg.from leg.to from (no_cause_at (leg_line leg) e)) in
          let rest = legs_said codes p' r.end lines place then h (omega (arith, length-append p.legs (leg ∷ []))) (subst (λ s. Through K R text s r.end lines place then) next t.2) in
          record {
            cards = [];
            of_kind = tt;
            legs = leg ∷ rest.legs;
            lines_are = ap (λ l. l ∷ map line_of lines) e ∙ ap (λ ls. leg_line leg ∷ ls) rest.lines_are;
            codes_are = ap (λ s. s.codes) rest.then_is;
            legs_are = ap (λ s. s.plain.legs) rest.then_is ∙ ap (λ l. (l ++ leg ∷ []) ++ rest.legs) none;
            size = ap (λ s. s.plain.register.size) rest.then_is;
            stand = λ a b. ap (λ s. standing s.plain.register a b) rest.then_is;
          }

  -- formats, and then cards and legs
  pub record AllSaid (codes : List (List ℕ)) (p : Plain K) (lines : List Line) (then : Said K) : Type 0 where
    pub new : List (List ℕ)
    pub cards : List CardSaid
    pub of_kind : OfKind cards
    pub legs : List Ends
    pub lines_are : lines ≡ format_lines (length codes) new ++ (map card_line cards ++ map leg_line legs)
    pub codes_are : then.codes ≡ codes ++ new
    pub few : length then.codes ≤ p.register.size
    pub legs_are : then.plain.legs ≡ legs
    pub size : then.plain.register.size ≡ p.register.size
    pub stand : (a b : ℕ) → standing then.plain.register a b ≡ or_else (cards_said K R.cost_of cards a b) (standing p.register a b)

  allowed_format : (l : Line) → Allowed Formats l → (k : ℕ) × (code : List ℕ) × (l ≡ Format k code)
  allowed_format (Bay kind n) h = absurd h
  allowed_format (Format k code) h = (k, code, refl)
  allowed_format (Card a b cost) h = absurd h
  allowed_format (Leg a b) h = absurd h
  allowed_format End h = absurd h

  no_more_formats : (codes : List (List ℕ)) (p : Plain K) (lines : List Line) (then : Said K) → length codes ≤ p.register.size → OrdersSaid codes p lines then → AllSaid codes p lines then
  no_more_formats codes p lines then few o = record {
    new = [];
    cards = o.cards;
    of_kind = o.of_kind;
    legs = o.legs;
    lines_are = o.lines_are;
    codes_are = o.codes_are ∙ sym (append-nil codes);
    few = subst (λ cs. length cs ≤ p.register.size) (sym o.codes_are) few;
    legs_are = o.legs_are;
    size = o.size;
    stand = o.stand;
  }

  pub all_said : (codes : List (List ℕ)) (p : Plain K) (from : ℕ) (lines : List Read) (place : ℕ) (then : Said K) → length codes ≤ p.register.size → p.legs ≡ [] →
      Through K R text (said codes p) from lines place then → AllSaid codes p (map line_of lines) then
  all_said codes p from [] place then few none t = record {
    new = [];
    cards = [];
    of_kind = tt;
    legs = [];
    lines_are = refl;
    codes_are = ap (λ s. s.codes) (sym t.1) ∙ sym (append-nil codes);
    few = subst (λ s. length s.codes ≤ p.register.size) t.1 few;
    legs_are = ap (λ s. s.plain.legs) (sym t.1) ∙ none;
    size = ap (λ s. s.plain.register.size) (sym t.1);
    stand = λ a b. ap (λ s. standing s.plain.register a b) (sym t.1);
  }
  all_said codes p from (r ∷ lines) place then few none t = elim (cases_lt (length codes) p.register.size) [
    | inl lt ↦ format_first (λ cs few' u. all_said cs p r.end lines place then few' none u) lt
    | inr le ↦ no_more_formats codes p (map line_of (r ∷ lines)) then few (orders_said codes p from (r ∷ lines) place then le none t)
  ]
    where
      format_first : ((cs : List (List ℕ)) → length cs ≤ p.register.size → Through K R text (said cs p) r.end lines place then → AllSaid cs p (map line_of lines) then) →
          length codes < p.register.size → AllSaid codes p (map line_of (r ∷ lines)) then
      format_first go_on lt =
          let is = allowed_format r.line (subst (λ stage. Allowed stage r.line) (formats_due R codes p lt) t.0.is_read.allowed) in
          let none_at_all = none_holds (line_causes K R (said codes p) (length text) from (Format is.0 is.1))
          (ap (λ l. first_cause (line_causes K R (said codes p) (length text) from l)) (sym is.2) ∙ t.0.no_cause) in
          let number_is : is.0 ≡ length codes = eqb-true is.0 (length codes) (not-false _ none_at_all.0) in
          let longer : length (codes ++ is.1 ∷ []) ≡ suc (length codes) = length-append codes (is.1 ∷ []) ∙ add-one (length codes) in
          let next = ap (adds K R (said codes p)) is.2 in
          let rest = go_on (codes ++ is.1 ∷ []) (omega (arith, longer, lt)) (subst (λ s. Through K R text s r.end lines place then) next t.2) in
          record {
            new = is.1 ∷ rest.new;
            cards = rest.cards;
            of_kind = rest.of_kind;
            legs = rest.legs;
            lines_are =
                ap (λ l. l ∷ map line_of lines) (is.2 ∙ ap (λ k. Format k is.1) number_is)
                ∙ ap (λ ls. Format (length codes) is.1 ∷ ls) (rest.lines_are ∙ ap (λ k. format_lines k rest.new ++ (map card_line rest.cards ++ map leg_line rest.legs)) longer);
            codes_are = rest.codes_are ∙ append_assoc codes (is.1 ∷ []) rest.new;
            few = rest.few;
            legs_are = rest.legs_are;
            size = rest.size;
            stand = rest.stand;
          }

  -- nothing stands at first
  or_none : (o : Option K.algebra.Value) (k : Bool) → or_else o (cond k None None) ≡ o
  or_none None true = refl
  or_none None false = refl
  or_none (Some x) k = refl

  -- an end line is due only once every format has its code
  end_due : (s : Said K) → Allowed (due R s) End → s.plain.register.size ≤ length s.codes
  end_due s h = elim (cases_lt (length s.codes) s.plain.register.size) [
    | inl lt ↦ absurd (subst (λ stage. Allowed stage End) (formats_due R s.codes s.plain lt) h)
    | inr le ↦ le
  ]

  -- the text of a ticket whose lines pass to its end
  module _ (n : ℕ) (fits : size_fits n ≡ true) (bay : Read) (bay_is : IsRead Start text 0 bay) (bay_line : bay.line ≡ Bay R.kind n) (place : ℕ) (then : Said K)
      (done : Completes K R text (begins n) bay.end place then) where
    sayings : AllSaid [] (record { register = begun n true ticket_entries; legs = [] }) (map line_of done.lines) then
    sayings = all_said [] (record { register = begun n true ticket_entries; legs = [] }) bay.end done.lines place then (omega arith) refl done.through

    whole_text : text ≡ flat_map line_text (Bay R.kind n ∷ (map line_of done.lines ++ End ∷ []))
    whole_text =
        let last_is = ap (λ l. first_cause (line_causes K R then (length text) place l)) (sym done.is_end) ∙ done.passes.no_cause in
        let ends_here = ltb-false (place + 6) (length text) (none_holds (line_causes K R then (length text) place End) last_is).0 in
        let end_is = done.passes.is_read.ends ∙ ap (λ l. place + length (line_text l)) done.is_end in
        let rest : drop place text ≡ line_text End =
        done.passes.is_read.whole ∙ ap (λ l. line_text l ++ drop done.last.end text) done.is_end
        ∙ ap (λ bs. line_text End ++ bs) (drop_all done.last.end text (omega (arith, ends_here, end_is))) ∙ append-nil (line_text End) in
        bay_is.whole ∙ ap (λ l. line_text l ++ drop bay.end text) bay_line
        ∙ ap (λ bs. line_text (Bay R.kind n) ++ bs) (through_text (begins n) bay.end done.lines place then done.through ∙ ap (λ bs. flat_map line_text (map line_of done.lines) ++ bs) rest
        ∙ flat_map_more line_text [] (map line_of done.lines) End)

    all_codes : length then.codes ≡ n
    all_codes =
        let size_is : then.plain.register.size ≡ n = sayings.size ∙ nearest_is n fits in
        let enough = end_due then (subst (Allowed (due R then)) done.is_end done.passes.is_read.allowed) in
        omega (arith, sayings.few, sayings.size, nearest_is n fits, enough)

    cards_are : standing then.plain.register ≡ cards_said K R.cost_of sayings.cards
    cards_are = λ i a b. (sayings.stand a b ∙ or_none (cards_said K R.cost_of sayings.cards a b) (pair {V = K.algebra.Value} (begun n true ticket_entries) a b)) i

    pub whole_said : (count : ℕ) (costs : List C) (chains : List ℕ) → count ≡ length then.plain.legs → (Gains K.algebra (standing then.plain.register) → ⊥) →
        ((d : C) → LeastChains K.algebra (standing then.plain.register) then.plain.legs (row_at chains) (λ k. K.value (get_or costs k d))) → Whole K R.cost_of text R.kind n count costs chains
    whole_said count costs chains many calm routed = record {
      codes = sayings.new;
      cards = sayings.cards;
      of_kind = sayings.of_kind;
      legs = sayings.legs;
      text_is =
          whole_text
          ∙ ap (λ ls. flat_map line_text (Bay R.kind n ∷ (ls ++ End ∷ []))) sayings.lines_are
          ∙ ap (λ ls. flat_map line_text (Bay R.kind n ∷ ls)) (append_assoc (format_lines 0 sayings.new) (map card_line sayings.cards ++ map leg_line sayings.legs) (End ∷ [])
          ∙ ap (λ ls. format_lines 0 sayings.new ++ ls) (append_assoc (map card_line sayings.cards) (map leg_line sayings.legs) (End ∷ [])))
          ∙ ap (λ k. flat_map line_text (Bay R.kind k ∷ (format_lines 0 sayings.new ++ (map card_line sayings.cards ++ (map leg_line sayings.legs ++ End ∷ []))))) (sym all_codes ∙ ap length sayings.codes_are);
      size = ap length (sym sayings.codes_are) ∙ all_codes;
      many = ap length (sym sayings.legs_are) ∙ sym many;
      no_loop = subst (λ card. Gains K.algebra card → ⊥) cards_are calm;
      routed = λ d. subst (λ l. LeastChains K.algebra (cards_said K R.cost_of sayings.cards) l (row_at chains) (λ k. K.value (get_or costs k d))) sayings.legs_are
          (subst (λ card. LeastChains K.algebra card then.plain.legs (row_at chains) (λ k. K.value (get_or costs k d))) cards_are (routed d));
    }

module _ {C : Type 0} (K : Kind C) (cost_of : Amount → C) (text : List ℕ) where
  -- what was granted is whole
  module _ (bay : BayLine) (has : HasBay text bay) (m m' : Contents C) (count : ℕ) where
    granted_route : (place : ℕ) (p : Plain K) (legs noted : List booked.Leg) (before after : Buffers C) (result : Result ℕ BayFault) → Ok count ≡ at_byte place result → RouteAnswer p legs noted before after result →
        Granted p legs noted before after result
    granted_route place p legs noted before after result e (inl t) = absurd (not_refused place result t.cause e t.answers)
    granted_route place p legs noted before after result e (inr (inl t)) = absurd (not_refused place result _ e (ap refused t.answers))
    granted_route place p legs noted before after result e (inr (inr t)) = t

    granted_lines : size_fits bay.size ≡ true → LinesAnswer K (read_as bay.kind cost_of) text bay.end m m' (Ok count) (begins bay.size) → Whole K cost_of text bay.kind bay.size count m'.buffers.costs m'.buffers.chains
    granted_lines fits (inl r) = absurd (let e = r.answers in let z : ◌≡◌ {A = ℕ} 0 1 = cc in omega arith)
    granted_lines fits (inr r) =
        let g = granted_route r.place r.then.plain r.legs r.noted m.buffers m'.buffers r.result r.answers r.route in
        let many : count ≡ length r.then.plain.legs = ok_same count _ (r.answers ∙ ap (at_byte r.place) g.answers) in
        whole_said K (read_as bay.kind cost_of) text bay.size fits has.read has.is_read has.line_is r.place r.then (subst (λ f. Completes K (read_as bay.kind cost_of) text (begins bay.size) f r.place r.then) (sym has.end_is) r.completes) count m'.buffers.costs m'.buffers.chains many g.no_loop g.routed

    pub granted_kind : KindAnswer K (read_as bay.kind cost_of) text bay.end m m' (Ok count) bay.size → Whole K cost_of text bay.kind bay.size count m'.buffers.costs m'.buffers.chains
    granted_kind t = elim t.answered [
      | inl r ↦ absurd (let e = r.answers in let z : ◌≡◌ {A = ℕ} 0 1 = cc in omega arith)
      | inr r ↦ granted_lines (bay_fits bay.kind bay.size (length m.entries) r.no_cause).0 r.lines
    ]
