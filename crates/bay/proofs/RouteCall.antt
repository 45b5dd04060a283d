-- What the route call is owed: the room that its first causes leave, the loop in row 0, and the granted route.
use Rattle.std.proofs.Common.{◌≡◌, ℕ, suc, ◌+◌, add-zero, ◌*◌, ◌<◌, ◌≤◌, Bool, true, false, cond, eqb, ltb, List, [], ◌∷◌, map, length, get_or, Some, None, Option, sym, refl, ap, ◌∙◌, subst, ⊎_elim, arith, length-append}
use Rattle.std.proofs.lemmas.List.{get_or_default, get_or_past}
use Rattle.std.proofs.lemmas.Bool.{cases_lt, eqb-false, ltb-false}
use Rattle.costs.specs.Algebra.{Algebra, Lawful}
use Rattle.registers.specs.Fault.{code, first_cause}
use Rattle.registers.specs.declared.fault.Layer.TheVariants.{Bay}
use Rattle.walks.proofs.Cut.{distinct_few}
use Rattle.walks.proofs.Loops.{runs_inside}
use Rattle.walks.proofs.Runs.{to_runs}
use Rattle.bay.proofs.Sheets.{get_or_put_row_above, length_put_row, length_row_of, row_at_put_row}
use Rattle.bay.specs.Sheet.{most_in_row, row_at, row_bytes, row_of}
use Rattle.registers.specs.Meaning.{Meaning, most_formats, standing}
use Rattle.walks.specs.Levels.{upto}
use Rattle.walks.proofs.Restrict.{standing_inside, upto_all}
use Rattle.bay.specs.Routing.{with_notes}
use Rattle.bay.specs.Solved.{LoopWritten}
use Rattle.walks.specs.Theorems.{Sound}
use Rattle.walks.specs.Walk.{path, Loop}
use Rattle.bay.specs.Leg.{no_leg, noted}
use Rattle.bay.specs.Plain.{ends, room_causes}
use Rattle.bay.specs.Routes.{LoopIn, note_of}
use Rattle.bay.specs.Buffers.{Beyond}
use Rattle.bay.specs.declared.legs.Leg.{Leg}
use Rattle.bay.proofs.Granted.{none≢some}

-- where no cause holds there are legs, and the table and the sheets are long enough
pub record Enough (legs n cells entries bytes : ℕ) : Type 0 where
  pub some : 0 < legs
  pub table : n * n ≤ cells
  pub costs : legs ≤ entries
  pub rows : row_bytes * legs ≤ bytes

pub room_enough : (legs n cells entries bytes : ℕ) → None ≡ first_cause (room_causes legs n cells entries bytes) → Enough legs n cells entries bytes
room_enough legs n cells entries bytes = go (eqb legs 0) (ltb cells (n * n)) (ltb entries legs) (ltb bytes (row_bytes * legs)) refl refl refl refl
  where
    go : (p q r s : Bool) → eqb legs 0 ≡ p → ltb cells (n * n) ≡ q → ltb entries legs ≡ r → ltb bytes (row_bytes * legs) ≡ s →
        None ≡ cond p (Some (code Bay 25 0)) (cond q (Some (code Bay 15 0)) (cond r (Some (code Bay 15 1)) (cond s (Some (code Bay 15 2)) None))) → Enough legs n cells entries bytes
    go true q r s a b c d e = absurd (none≢some e)
    go false true r s a b c d e = absurd (none≢some e)
    go false false true s a b c d e = absurd (none≢some e)
    go false false false true a b c d e = absurd (none≢some e)
    go false false false false a b c d e =
        let not_None = eqb-false legs 0 a in
        record { some = omega arith; table = ltb-false cells (n * n) b; costs = ltb-false entries legs c; rows = ltb-false bytes (row_bytes * legs) d }

-- what is as it was from k on, at one default, is so at any
pub beyond_any : {X : Type 0} (d : X) (k : ℕ) (before now : List X) → length now ≡ length before → ((j : ℕ) → k ≤ j → get_or now j d ≡ get_or before j d) → Beyond k before now
beyond_any d k before now long rest = record {
  long = long;
  same = λ j e h. ⊎_elim
      (λ lt. get_or_default now j e d (omega arith) ∙ rest j h ∙ get_or_default before j d e lt)
      (λ le. get_or_past now j e (omega arith) ∙ sym (get_or_past before j e le))
      (cases_lt j (length before));
}

module _ {A : Algebra} (L : Lawful A) (card : ℕ → ℕ → Option A.Value) (n : ℕ) (sound : Sound A n card) (few : n ≤ most_formats) where
  -- a loop has at most 65 formats
  loop_fits : (h : ℕ) (ms : List ℕ) → Loop A card h ms → length (path h ms h) ≤ most_in_row
  loop_fits h ms (walk, distinct) =
      let inside = runs_inside L card n sound h ms h _ (to_runs L card h ms h walk) in
      omega (arith, distinct_few n (h ∷ ms) (inside.0, inside.1) distinct, length-append ms (h ∷ []))

  pub loop_in_row : (h : ℕ) (before now : List ℕ) → row_bytes ≤ length before → LoopWritten A card h before now → LoopIn A card (row_at now 0) × Beyond row_bytes before now
  loop_in_row h before now room (ms, loop, gains, e) =
      let row = row_of (path h ms h) in
      let long = length_row_of (path h ms h) (loop_fits h ms loop) in (
        record { start = h; inner = ms; row_is = ap (λ s. row_at s 0) e ∙ row_at_put_row before 0 row (omega arith) long; loop = loop; gains = gains },
        beyond_any 0 row_bytes before now (ap length e ∙ length_put_row before 0 row (omega arith) long) (λ j h. ap (λ s. get_or s j 0) e ∙ get_or_put_row_above before 0 row (omega arith) long j (omega arith)),
      )

-- all of a register's cards lead between formats below its size
pub cards_upto : {V : Type 0} (m : Meaning V) (n : ℕ) → n ≡ m.size → upto n (standing m) ≡ standing m
cards_upto m n size = subst (λ k. upto k (standing m) ≡ standing m) (sym size) (upto_all m.size (standing m) (standing_inside m))

-- legs with the notes of their rows, place by place
pub noted_all : (row : ℕ → List ℕ) (legs now : List Leg) → length now ≡ length legs →
    ((j : ℕ) → j < length legs → get_or now j no_leg ≡ noted (note_of (row j)) (get_or legs j no_leg)) → now ≡ with_notes 0 row legs
noted_all row legs now long each = go 0 legs now long (λ j l. let e : j ≡ 0 + j = omega arith in each j l ∙ ap (λ i. noted (note_of (row i)) (get_or legs j no_leg)) e)
  where
    go : (k : ℕ) (legs now : List Leg) → length now ≡ length legs → ((j : ℕ) → j < length legs → get_or now j no_leg ≡ noted (note_of (row (k + j))) (get_or legs j no_leg)) → now ≡ with_notes k row legs
    go k [] [] e h = refl
    go k [] (x ∷ now) e h = absurd (omega arith)
    go k (leg ∷ legs) [] e h = absurd (omega arith)
    go k (leg ∷ legs) (x ∷ now) e h =
        let first : x ≡ noted (note_of (row k)) leg = h 0 (omega arith) ∙ ap (λ i. noted (note_of (row i)) leg) (add-zero k) in
        let rest = go (suc k) legs now (omega arith) (λ j l. let e : k + suc j ≡ suc k + j = omega arith in h (suc j) (omega arith) ∙ ap (λ i. noted (note_of (row i)) (get_or legs j no_leg)) e) in
        λ i. first i ∷ rest i

-- notes change no ends
pub ends_noted : (k : ℕ) (row : ℕ → List ℕ) (legs : List Leg) → map ends (with_notes k row legs) ≡ map ends legs
ends_noted k row [] = refl
ends_noted k row (leg ∷ legs) = ap (λ l. ends leg ∷ l) (ends_noted (suc k) row legs)
