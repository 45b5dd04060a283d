-- Lines that pass one after the other: one line more, and what a format line adds.
use Rattle.std.proofs.Common.{◌≡◌, ℕ, ◌+◌, ◌<◌, cond, not, eqb, ltb, List, [], ◌∷◌, ◌++◌, length, take, drop, sym, refl, ap, ◌∙◌, subst, inl, inr, arith}
use Rattle.std.proofs.lemmas.List.{take_more_set, drop-drop, drop-set-lt, length-take-le}
use Rattle.std.proofs.lemmas.Bool.{cond-true, cond-false, eq-eqb, lt-ltb}
use Rattle.costs.specs.declared.Cost.{Ghosts as Kind}
use Rattle.costs.specs.Algebra.{Algebra}
use Rattle.registers.specs.Fault.{first_cause}
use Rattle.bay.specs.Plain.{Plain}
use Rattle.lines.specs.Grammar.{IsRead, IsRefused}
use Rattle.lines.specs.declared.line.Read.{Read}
use Rattle.lines.specs.declared.line.Stage.TheVariants.{Formats, Cards, Legs}
use Rattle.ticket.specs.Kinds.{ReadAs}
use Rattle.ticket.specs.Faults.{told_by}
use Rattle.ticket.specs.Said.{Said, said, due, adds, line_causes, Passes, More, Through, LineRefused, Stops}
use Rattle.ticket.specs.Steps.{FormatRead, FormatRefused, FormatsRead}
use Rattle.ticket.specs.declared.fault.Refusal.{Refusal}

-- formats are due while one has no code
pub formats_due : {C : Type 0} {K : Kind C} (R : ReadAs C) (codes : List (List ℕ)) (p : Plain K) → length codes < p.register.size → due R (said codes p) ≡ Formats
formats_due R codes p h = cond-true (ltb (length codes) p.register.size) Formats (cond (eqb (length p.legs) 0) (Cards R.kind) Legs) (lt-ltb _ _ h)

module _ {C : Type 0} (K : Kind C) (R : ReadAs C) (text : List ℕ) where
  -- one line more passes
  pub through_more : (s : Said K) (from : ℕ) (lines : List Read) (place : ℕ) (then : Said K) (read : Read) → Through K R text s from lines place then →
      Passes K R text then place read → More read.line → Through K R text s from (lines ++ read ∷ []) read.end (adds K R then read.line)
  through_more s from [] place then read t p more =
      subst (λ x. Passes K R text x from read × More read.line × ((read.end ≡ read.end) × (adds K R x read.line ≡ adds K R then read.line))) (sym t.1)
      (subst (λ x. Passes K R text then x read) (sym t.0) p, more, (refl, refl))
  through_more s from (l ∷ lines) place then read t p more = (t.0, t.1, through_more (adds K R s l.line) l.end lines place then read t.2 p more)

  module _ (from k : ℕ) (codes codes' : List (List ℕ)) (p : Plain K) (long : length (take k codes) ≡ k) (few : k < p.register.size) where
    format_is_due : due R (said (take k codes) p) ≡ Formats
    format_is_due = formats_due R (take k codes) p (omega (arith, long))

    pub format_passes : (end : ℕ) (r : FormatRead text from k codes codes' end) → Passes K R text (said (take k codes) p) from r.read
    format_passes end r = record {
      is_read = subst (λ stage. IsRead stage text from r.read) (sym format_is_due) r.is_read;
      no_cause =
          ap (λ l. first_cause (line_causes K R (said (take k codes) p) (length text) from l)) r.line_is
          ∙ cond-false _ _ _ (ap not (eq-eqb k (length (take k codes)) (sym long)))
          ∙ cond-false _ _ _ r.unused;
    }

    pub format_adds : (end : ℕ) (r : FormatRead text from k codes codes' end) → k < length codes → adds K R (said (take k codes) p) r.read.line ≡ said (take (k + 1) codes') p
    format_adds end r h =
        ap (adds K R (said (take k codes) p)) r.line_is
        ∙ ap (λ cs. said cs p) (sym (take_more_set codes k r.fourcc h) ∙ ap (take (k + 1)) (sym r.written))

    pub format_refused : (refusal : Refusal) → FormatRefused text from k codes codes' refusal → LineRefused K R text (said (take k codes) p) from (told_by refusal)
    format_refused refusal r = elim r.why [
      | inl h ↦ inl (subst (λ stage. IsRefused stage text from refusal.byte) (sym format_is_due) h.0, h.1)
      | inr h ↦ inr (
        h.0,
        subst (λ stage. IsRead stage text from h.0) (sym format_is_due) h.3,
        ap (λ l. first_cause (line_causes K R (said (take k codes) p) (length text) from l)) h.4 ∙ h.5,
      )
    ]

module _ {C : Type 0} (K : Kind C) (text : List ℕ) where
  -- the lines of one format more
  module _ (from n k : ℕ) (codes codes' : List (List ℕ)) (place : ℕ) (lines : FormatsRead K text from n k codes codes' place) (room : k < length codes') (few : k < n) where
    long : length (take k codes') ≡ k
    long = length-take-le k codes' (omega arith)

    pub formats_more : (codes'' : List (List ℕ)) (end : ℕ) → FormatRead text place k codes' codes'' end → FormatsRead K text from n (k + 1) codes codes'' end
    formats_more codes'' end r = record {
      lines = lines.lines ++ r.read ∷ [];
      through = λ R p size.
          let few' : k < p.register.size = omega (arith, size) in
          subst (λ e. Through K R text (said [] p) from (lines.lines ++ r.read ∷ []) e (said (take (k + 1) codes'') p)) r.end_is
          (subst (Through K R text (said [] p) from (lines.lines ++ r.read ∷ []) r.read.end) (format_adds K R text place k codes' codes'' p long few' end r room)
          (through_more K R text (said [] p) from lines.lines place (said (take k codes') p) r.read (lines.through R p size) (format_passes K R text place k codes' codes'' p long few' end r)
          (subst More (sym r.line_is) tt)));
      beyond =
          ap (drop (k + 1)) r.written ∙ drop-set-lt (k + 1) codes' k r.fourcc (omega arith)
          ∙ sym (drop-drop 1 k codes') ∙ ap (drop 1) lines.beyond ∙ drop-drop 1 k codes;
    }

    pub formats_stop : (codes'' : List (List ℕ)) (refusal : Refusal) → FormatRefused text place k codes' codes'' refusal →
        (R : ReadAs C) (p : Plain K) → p.register.size ≡ n → Stops K R text (said [] p) from (told_by refusal)
    formats_stop codes'' refusal r R p size = record {
      lines = lines.lines;
      place = place;
      then = said (take k codes') p;
      through = lines.through R p size;
      refused = format_refused K R text place k codes' codes'' p long (omega (arith, size)) refusal r;
    }
