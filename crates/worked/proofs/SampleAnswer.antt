-- Every answer that the sample ticket may have prints the same listing.
use Rattle.std.proofs.Common.{◌≡◌, ℕ, zero, suc, ◌*◌, ◌≤◌, List, [], ◌∷◌, ◌++◌, map, length, get_or, take, drop, pos, None, Ok, Err, codes, Result, sym, refl, ap, ◌∙◌, subst, inl, inr, arith}
use Rattle.std.proofs.Math.ListN.{get_or-map}
use Rattle.std.specs.List.{Contains}
use Rattle.std.proofs.lemmas.Bool.{cond-false, le-ltb}
use Rattle.std.specs.Fmt.{digits}
use Rattle.costs.specs.Kinds.{delays}
use Rattle.costs.specs.declared.delay.Delay.{Delay}
use Rattle.registers.specs.Fault.{first_cause}
use Rattle.bay.specs.Sheet.{row_at, row_bytes, row_of}
use Rattle.bay.specs.Reversal.{RouteMade}
use Rattle.bay.specs.Routing.{RouteAnswer, route_causes}
use Rattle.bay.specs.declared.fault.BayFault.{BayFault}
use Rattle.bay.specs.declared.legs.Ends.{Ends}
use Rattle.bay.specs.declared.legs.Leg.{Leg}
use Rattle.lines.specs.declared.line.Amount.{Amount}
use Rattle.lines.specs.declared.line.Amount.TheVariants.{HalfLines}
use Rattle.lines.specs.declared.line.Kind.TheVariants as kind
use Rattle.lines.specs.declared.line.Line.{Line}
use Rattle.lines.specs.declared.line.Line.TheVariants.{Bay}
use Rattle.lines.specs.declared.line.Stage.TheVariants.{Start}
use Rattle.ticket.specs.Answers.{BayAnswer, Contents, HasBay, KindAnswer, LinesAnswer}
use Rattle.ticket.specs.Faults.{told_by, at_byte}
use Rattle.ticket.specs.Kinds.{delay_of}
use Rattle.bay.specs.Buffers.{in_front}
use Rattle.ticket.specs.Said.{begins, ticket_entries, Passes}
use Rattle.ticket.specs.Texts.{delay_texts}
use Rattle.ticket.specs.declared.fault.Refusal.{Refusal}
use Rattle.ticket.specs.declared.serve.BayLine.{BayLine}
use Rattle.ticket_laws.proofs.Deciding.{one_read, not_both, one_way, refused_not_passed, none≢some}
use Rattle.listing.specs.Answered.{Ample, ListedAs, ListedOf}
use Rattle.listing.specs.Output.{Printed}
use Rattle.listing.specs.Text.{listing_text, leg_text, formats_of, no_amount, text_from, pieces}
use Rattle.listing.specs.declared.answer.PlaceShort.{PlaceShort}
use Rattle.listing.specs.declared.answer.TicketAnswer.{TicketAnswer}
use Rattle.worked.specs.Sample.{sample_ticket, sample_listing, SampleAnswered}
use Rattle.worked.proofs.SampleLines.{bay_read, bay_is_read, delay_read, sample_said, sample_completes}
use Rattle.worked.proofs.SampleRoute.{sample_granted}

-- the listing, from the codes, the ends, the first cost and the two rows
module _ (fourccs : List (List ℕ)) (ends : List Ends) (amounts : List Amount) (chains : List ℕ) (codes_rest : List (List ℕ)) (ends_rest : List Ends)
    (codes_are : fourccs ≡ sample_said.codes ++ codes_rest) (ends_are : ends ≡ sample_said.plain.legs ++ ends_rest)
    (paid : get_or amounts 0 no_amount ≡ HalfLines (pos 6)) (row_0 : row_at chains 0 ≡ row_of (0 ∷ 2 ∷ 1 ∷ [])) (row_1 : row_at chains 1 ≡ row_of []) where
  formats_0 : formats_of chains 0 ≡ 0 ∷ 2 ∷ 1 ∷ []
  formats_0 = ap (λ r. take (get_or r 0 0) (drop 1 r)) row_0

  formats_1 : formats_of chains 1 ≡ []
  formats_1 = ap (λ r. take (get_or r 0 0) (drop 1 r)) row_1

  pub lists : listing_text fourccs ends amounts chains 2 ≡ sample_listing
  unfolding digits
  lists =
      ap (λ cs. listing_text cs ends amounts chains 2) codes_are
      ∙ ap (λ es. listing_text (sample_said.codes ++ codes_rest) es amounts chains 2) ends_are
      ∙ ap (λ z. pieces ((leg_text (sample_said.codes ++ codes_rest) 0 (record { from = 0; to = 1 }) z (formats_of chains 0) ++ leg_text (sample_said.codes ++ codes_rest) 1 (record { from = 1; to = 0 }) (get_or amounts 1 no_amount) (formats_of chains 1)) ∷ codes "(end)" ∷ (10 ∷ []) ∷ [])) paid
      ∙ ap (λ fs. pieces ((leg_text (sample_said.codes ++ codes_rest) 0 (record { from = 0; to = 1 }) (HalfLines (pos 6)) fs ++ leg_text (sample_said.codes ++ codes_rest) 1 (record { from = 1; to = 0 }) (get_or amounts 1 no_amount) (formats_of chains 1)) ∷ codes "(end)" ∷ (10 ∷ []) ∷ [])) formats_0
      ∙ ap (λ fs. pieces ((leg_text (sample_said.codes ++ codes_rest) 0 (record { from = 0; to = 1 }) (HalfLines (pos 6)) (0 ∷ 2 ∷ 1 ∷ []) ++ leg_text (sample_said.codes ++ codes_rest) 1 (record { from = 1; to = 0 }) (get_or amounts 1 no_amount) fs) ∷ codes "(end)" ∷ (10 ∷ []) ∷ [])) formats_1

-- of a list of one
only_one : {X : Type 0} (x y : X) → Contains (x ∷ []) y → y ≡ x
only_one x y (zero, lt, at) = sym at
only_one x y (suc k, lt, at) = absurd (omega arith)

-- the answer after the bay line
module _ (m m' : Contents Delay) (ample : Ample m) (answer : Result ℕ Refusal) where
  no_early : first_cause (route_causes sample_said.plain m.buffers) ≡ None
  no_early =
      cond-false _ _ _ (le-ltb (length m.buffers.table) 9 (omega (arith, ample.table)))
      ∙ cond-false _ _ _ (le-ltb (length m.buffers.costs) 2 (omega (arith, ample.costs)))
      ∙ cond-false _ _ _ (le-ltb (length m.buffers.chains) (row_bytes * 2) (omega (arith, ample.chains)))

  -- granted, with these rows and costs
  pub record Right : Type 0 where
    pub answers : answer ≡ Ok 2
    pub codes_are : m'.codes ≡ in_front sample_said.codes m.codes
    pub ends_are : m'.ends ≡ in_front sample_said.plain.legs m.ends
    pub paid : get_or (map delay_texts.writes m'.buffers.costs) 0 no_amount ≡ HalfLines (pos 6)
    pub row_0 : row_at m'.buffers.chains 0 ≡ row_of (0 ∷ 2 ∷ 1 ∷ [])
    pub row_1 : row_at m'.buffers.chains 1 ≡ row_of []

  routed : (place : ℕ) (legs noted : List Leg) (result : Result ℕ BayFault) → RouteAnswer sample_said.plain legs noted m.buffers m'.buffers result → answer ≡ at_byte place result →
      m'.codes ≡ in_front sample_said.codes m.codes → m'.ends ≡ in_front sample_said.plain.legs m.ends → Right
  routed place legs noted result t e f g =
      let made : RouteMade sample_said.plain = record { legs = legs; noted = noted; before = m.buffers; after = m'.buffers; answer = result; answered = t; roomy = no_early } in
      let granted = sample_granted.each sample_said.plain (λ a b. refl) refl made in
      let some : Delay = delay_of no_amount in
      let first = granted.legs 0 _ refl in
      let second = granted.legs 1 _ refl in
      record {
        answers = e ∙ ap (at_byte place) granted.answer;
        codes_are = f;
        ends_are = g;
        paid = get_or-map delay_texts.writes m'.buffers.costs 0 some ∙ ap HalfLines (first.cost some);
        row_0 = only_one _ _ first.row;
        row_1 = only_one _ _ second.row;
      }

  of_lines : LinesAnswer delays delay_read sample_ticket 14 m m' answer (begins 3) → Right
  of_lines (inl t) =
      let known = sample_completes in
      let same = one_way delays delay_read sample_ticket (begins 3) 14 t.stops.lines known.lines t.stops.place 132 t.stops.then sample_said t.stops.through known.through
      (inl (told_by t.refusal, t.stops.refused)) (inr (known.last, known.passes, known.is_end)) in
      absurd (refused_not_passed delays delay_read sample_ticket t.stops.then t.stops.place (told_by t.refusal) known.last t.stops.refused
      (subst (λ x. Passes delays delay_read sample_ticket x t.stops.place known.last) (sym same.1)
      (subst (λ x. Passes delays delay_read sample_ticket sample_said x known.last) (sym same.0) known.passes)))
  of_lines (inr t) =
      let known = sample_completes in
      let same = one_way delays delay_read sample_ticket (begins 3) 14 t.completes.lines known.lines t.place 132 t.then sample_said t.completes.through known.through
      (inr (t.completes.last, t.completes.passes, t.completes.is_end)) (inr (known.last, known.passes, known.is_end)) in
      routed t.place t.legs t.noted t.result (subst (λ x. RouteAnswer x.plain t.legs t.noted m.buffers m'.buffers t.result) same.1 t.route)
      t.answers (t.codes ∙ ap (λ x. in_front x.codes m.codes) same.1) (t.ends ∙ ap (λ x. in_front x.plain.legs m.ends) same.1)

  pub of_kind : KindAnswer delays delay_read sample_ticket 14 m m' answer 3 → Right
  of_kind t = elim t.answered [
    | inl a ↦ absurd (none≢some _ (told_by a.refusal) (cond-false _ _ _ (le-ltb (length m.entries) ticket_entries ample.entries)) a.cause)
    | inr a ↦ of_lines a.lines
  ]

printed_is : (place place' text : List ℕ) (r : Result ℕ PlaceShort) → text ≡ sample_listing → length sample_listing ≤ length place → Printed place place' text r →
    (r ≡ Ok (length sample_listing)) × (place' ≡ sample_listing ++ drop (length sample_listing) place)
printed_is place place' text (Ok n) e h p = (ap Ok (p.0 ∙ ap length e), p.1 ∙ ap (λ t. t ++ drop (length t) place) e)
printed_is place place' text (Err short) e h p = absurd (omega (arith, p.0, p.1, h, ap length e))

-- what the first line says
abbrev sample_bay : BayLine
sample_bay = record { kind = kind.Delay; size = 3; end = 14 }

bay_is : (bay : BayLine) → HasBay sample_ticket bay → bay ≡ sample_bay
bay_is bay t =
    let same = one_read Start sample_ticket 0 t.read bay_read t.is_read bay_is_read in
    let line_same : ◌≡◌ {A = Line} (Bay bay.kind bay.size) (Bay kind.Delay 3) = sym t.line_is ∙ ap (λ r. r.line) same in
    let kind_is : bay.kind ≡ kind.Delay = cc in
    let size_is : bay.size ≡ 3 = cc in
    let end_is : bay.end ≡ 14 = sym t.end_is ∙ ap (λ r. r.end) same in
    λ i. record { kind = kind_is i; size = size_is i; end = end_is i }

listed_is : (place place' : List ℕ) (a : TicketAnswer) → length sample_listing ≤ length place → ListedOf delays delay_texts sample_ticket sample_bay place place' a →
    (a.text ≡ Ok (length sample_listing)) × (place' ≡ sample_listing ++ drop (length sample_listing) place)
listed_is place place' a h l =
    let m = l.before in
    let m' = l.after in
    let t = of_kind m m' l.ample a.verdict l.answered.right in
    printed_is place place' _ a.text
    (ap (text_from delay_texts.writes m') t.answers
    ∙ lists m'.codes m'.ends (map delay_texts.writes m'.buffers.costs) m'.buffers.chains (drop 3 m.codes) (drop 2 m.ends) t.codes_are t.ends_are t.paid t.row_0 t.row_1)
    h l.answered.printed

-- it is not refused at its first line
not_refused : (refusal : Refusal) → BayAnswer sample_ticket (Err refusal) → ⊥
not_refused refusal (inl over) = omega (arith, over.long)
not_refused refusal (inr none) = not_both Start sample_ticket 0 bay_read refusal.byte bay_is_read none.refused

pub sample_answered : SampleAnswered
sample_answered place place' a h (inl t) = absurd (not_refused t.refusal t.answers)
sample_answered place place' a h (inr (bay, has, listed)) =
    listed_is place place' a h (subst (λ b. ListedAs b.kind sample_ticket b place place' a) (bay_is bay has) listed)
