-- Lines after lines, and the codes in the front of their place.
use Rattle.std.proofs.Common.{◌≡◌, ℕ, ◌≤◌, true, leb, List, [], ◌∷◌, ◌++◌, length, take, drop, None, Option, Result, sym, refl, ap, ◌∙◌, subst, inl, inr, arith}
use Rattle.std.proofs.lemmas.List.{take-append-drop}
use Rattle.std.proofs.lemmas.Slice.{drop-append-drop}
use Rattle.std.proofs.lemmas.Bool.{and_parts, and_from, not-false, ltb-false, leb-true}
use Rattle.costs.specs.declared.Cost.{Ghosts as Kind}
use Rattle.costs.specs.Algebra.{Algebra}
use Rattle.registers.specs.Meaning.{Meaning, least_formats, meant, most_formats}
use Rattle.lent.specs.Lent.{begun, nearest_size, size_fits}
use Rattle.lent.specs.List.{entries_fit, list_fits}
use Rattle.lent.specs.declared.list.Entry.{Entry}
use Rattle.bay.specs.declared.cells.Cell.{Cell}
use Rattle.lines.specs.declared.line.Read.{Read}
use Rattle.registers.specs.Fault.{first_cause}
use Rattle.ticket.specs.Kinds.{ReadAs}
use Rattle.ticket.specs.Answers.{Contents, LinesAnswer}
use Rattle.ticket.specs.Faults.{Told}
use Rattle.bay.specs.Buffers.{in_front}
use Rattle.lines.specs.declared.line.Kind.{Kind as KindName}
use Rattle.ticket.specs.Said.{Said, adds, bay_causes, ticket_entries, Through, Stops, Completes}
use Rattle.ticket.specs.declared.fault.Refusal.{Refusal}
use Rattle.ticket.proofs.Taking.{none_holds}

-- what was written in the front of a place, by what is beyond
pub front_is : {X : Type 0} (n : ℕ) (new old : List X) → length (take n new) ≡ n → drop n new ≡ drop n old → new ≡ in_front (take n new) old
front_is n new old long beyond =
    sym (take-append-drop n new) ∙ ap (λ t. take n new ++ t) beyond ∙ ap (λ k. take n new ++ drop k old) (sym long)

module _ {C : Type 0} (K : Kind C) (R : ReadAs C) (text : List ℕ) where
  through_append : (s : Said K) (from : ℕ) (lines : List Read) (place : ℕ) (then : Said K) (more : List Read) (end : ℕ) (last : Said K) →
      Through K R text s from lines place then → Through K R text then place more end last → Through K R text s from (lines ++ more) end last
  through_append s from [] place then more end last t u =
      subst (λ x. Through K R text x from more end last) (sym t.1) (subst (λ x. Through K R text then x more end last) (sym t.0) u)
  through_append s from (l ∷ lines) place then more end last t u = (t.0, t.1, through_append (adds K R s l.line) l.end lines place then more end last t.2 u)

  module _ (s : Said K) (from : ℕ) (lines : List Read) (place : ℕ) (then : Said K) (through : Through K R text s from lines place then) where
    pub stops_after : (t : Told) → Stops K R text then place t → Stops K R text s from t
    stops_after t r = record {
      lines = lines ++ r.lines;
      place = r.place;
      then = r.then;
      through = through_append s from lines place then r.lines r.place r.then through r.through;
      refused = r.refused;
    }

    pub completes_after : (end : ℕ) (last : Said K) → Completes K R text then place end last → Completes K R text s from end last
    completes_after end last r = record {
      lines = lines ++ r.lines;
      through = through_append s from lines place then r.lines end last through r.through;
      last = r.last;
      passes = r.passes;
      is_end = r.is_end;
    }

-- a bay line that passes: the size is one that a register has, and there are entries enough
pub bay_fits : (kind : KindName) (n entries : ℕ) → first_cause (bay_causes kind n entries) ≡ None → (size_fits n ≡ true) × (ticket_entries ≤ entries)
bay_fits kind n entries e =
    let none = none_holds (bay_causes kind n entries) e in
    (not-false (size_fits n) none.0, ltb-false entries ticket_entries none.1.0)

pub size_few : (n : ℕ) → size_fits n ≡ true → (least_formats ≤ n) × (n ≤ most_formats)
size_few n e = let both = and_parts (leb least_formats n) (leb n most_formats) e in (leb-true least_formats n both.0, leb-true n most_formats both.1)

pub nearest_is : (n : ℕ) → size_fits n ≡ true → nearest_size n ≡ n
nearest_is n e = omega (arith, (size_few n e).0, (size_few n e).1)

module _ {C : Type 0} (K : Kind C) where
  -- a list that was just made in so many entries
  pub list_begins : (n : ℕ) (part : List (Option (Entry C))) (m : Meaning C) → size_fits n ≡ true → length part ≡ ticket_entries → m ≡ begun n (list_fits n (length part)) (length part) →
      meant K m ≡ begun n true ticket_entries
  list_begins n part m fits long e =
      ap (meant K) e
      ∙ ap (λ k. meant K (begun n (list_fits n k) k)) long
      ∙ ap (λ b. meant K (begun n b ticket_entries)) (and_from (size_fits n) (entries_fit ticket_entries) fits refl)

-- what the lines are answered has nothing to do with the entries
pub lines_with_entries : {C : Type 0} (K : Kind C) (R : ReadAs C) (text : List ℕ) (from : ℕ) (entries entries' : List (Option (Entry C))) (m m' : Contents C) (answer : Result ℕ Refusal) (s then : Said K) → s ≡ then →
    LinesAnswer K R text from m m' answer s → LinesAnswer K R text from (record m { entries = entries }) (record m' { entries = entries' }) answer then
lines_with_entries K R text from entries entries' m m' answer s then e lines =
    subst (LinesAnswer K R text from (record m { entries = entries }) (record m' { entries = entries' }) answer) e
    (elim lines [
      | inl r ↦ inl (record { refusal = r.refusal; stops = r.stops; answers = r.answers; untouched = r.untouched })
      | inr r ↦ inr (record {
        place = r.place;
        then = r.then;
        completes = r.completes;
        legs = r.legs;
        noted = r.noted;
        result = r.result;
        route = r.route;
        answers = r.answers;
        codes = r.codes;
        ends = r.ends;
      })
    ])

-- entries beyond those that a ticket uses
pub entries_beyond : {X : Type 0} (front entries : List X) → length front ≡ ticket_entries → drop ticket_entries (front ++ drop ticket_entries entries) ≡ drop ticket_entries entries
entries_beyond front entries long = drop-append-drop ticket_entries entries front ticket_entries (omega arith) long
