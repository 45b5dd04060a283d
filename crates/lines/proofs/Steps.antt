-- One step of the reader inside a word or a code, where how far it has come is a variable.
-- The other steps compute.
use Rattle.std.proofs.Common.{◌≡◌, ℕ, zero, suc, ◌+◌, ◌-◌, ◌*◌, ◌<◌, ◌≤◌, Bool, true, false, cond, ◌&&◌, ◌||◌, eqb, leb, ℤ, Some, None, Option, List, [], ◌∷◌, ◌++◌, length, get_or, take, drop, set, codes, sym, refl, ap, ◌∙◌, inl, inr, append_assoc, arith}
use mathlib.Core.Path.{fun_ext}
use Rattle.std.specs.Bool.{Decides}
use Rattle.std.proofs.lemmas.List.{drop_more, drop_all, take_more_set, take_all, append-nil, get_or_append_left, length-take-le}
use Rattle.std.proofs.lemmas.Bool.{ne_eqb, eq-eqb, eqb-true, and_parts, and_from, cond_both, cond-true, cond-false, cases_lt, both_ways, false≢true, false_from_ne_true}
use Rattle.std.proofs.lemmas.Bool.Decides.{nat_tests}
use Rattle.lines.specs.Signs.{digit, letter, sort_of}
use Rattle.lines.specs.Rests.{Rest, dead, after_byte, left, fixed, signs, letters_of, word_end, word_rest, is_front, kind_rest, de_choice, kind_choice, size_rest, code_rest, closing, number, digits, signed, lines_end, bits_end, lines_reading, bits_reading, of_two, after_lines, after_bits, to_come, rest_at}
use Rattle.lines.specs.Grammar.{kind_text}
use Rattle.lines.specs.declared.line.Kind.{Kind}
use Rattle.lines.specs.declared.line.Kind.TheVariants.{Delay, Depth, Both}
use Rattle.lines.specs.declared.line.Line.TheVariants as line
use Rattle.lines.specs.declared.line.Stage.{Stage}
use Rattle.lines.specs.declared.reader.Reader.{Reader}
use Rattle.lines.specs.declared.reader.State.{State}
use Rattle.lines.specs.declared.reader.State.TheVariants.{InWord, InKind, InCode, Lines, Bits}
use Rattle.lines.specs.declared.sort.Sort.TheVariants.{Letter, Digit, Space, Close, Minus, Point}
use Rattle.lines.specs.declared.words.Word.{Word}
use Rattle.lines.specs.declared.words.Word.TheVariants.{Bay, Format, Card, Leg, End}

-- a text of which `at` bytes were read
pub fixed_stops : (w : List ℕ) (at c : ℕ) (r : Rest) → at < length w → (get_or w at 0 ≡ c → ⊥) → after_byte (fixed (drop at w) r) c ≡ dead
fixed_stops w at c r l apart =
    ap (λ bs. after_byte (fixed bs r) c) (drop_more w at 0 l)
    ∙ cond-false (eqb c (get_or w at 0)) (fixed (drop (at + 1) w) r) dead (ne_eqb _ _ (λ e. apart (sym e)))

pub fixed_ends : (w : List ℕ) (at : ℕ) (r : Rest) → length w ≤ at → fixed (drop at w) r ≡ r
fixed_ends w at r l = ap (λ bs. fixed bs r) (drop_all at w l)

abbrev all_letters : List ℕ → Bool
all_letters [] = true
all_letters (c ∷ cs) = letter c && all_letters cs

letter_at : (w : List ℕ) (at : ℕ) → all_letters w ≡ true → at < length w → letter (get_or w at 0) ≡ true
letter_at [] at h l = absurd (omega arith)
letter_at (c ∷ cs) zero h l = grind arith
letter_at (c ∷ cs) (suc at) h l = letter_at cs at (grind arith) (omega arith)

lettered : (w : Word) → all_letters (letters_of w) ≡ true
lettered Bay = refl
lettered Format = refl
lettered Card = refl
lettered Leg = refl
lettered End = refl

-- inside a word only a letter fits
pub word_inside : (stage : Stage) (w : Word) (at c : ℕ) → at < length (letters_of w) → letter c ≡ false → after_byte (word_rest stage w at) c ≡ dead
word_inside stage w at c l no_letter =
    fixed_stops (letters_of w) at c (word_end stage w) l (λ e. let h = letter_at (letters_of w) at (lettered w) l in grind (arith, e))

-- and after it a space or a closing sign
pub word_after : (stage : Stage) (w : Word) (c : ℕ) → (c ≡ 32 → ⊥) → (c ≡ 41 → ⊥) → after_byte (word_end stage w) c ≡ dead
word_after stage Bay c s t = grind (arith, nat_tests)
word_after stage Format c s t = grind (arith, nat_tests)
word_after stage Card c s t = grind (arith, nat_tests)
word_after stage Leg c s t = grind (arith, nat_tests)
word_after stage End c s t = grind (arith, nat_tests)

-- one more sign of a code
pub code_goes : (k at c : ℕ) (code : List ℕ) → length code ≡ 4 → at < 4 → (letter c || digit c) ≡ true → after_byte (code_rest k at code) c ≡ code_rest k (at + 1) (set code at c)
code_goes k at c code four l fits =
    let e : 4 - at ≡ suc (4 - (at + 1)) = omega arith in
    let next : List ℕ → Rest = λ cs. closing (line.Format k (take at code ++ cs)) in
    ap (λ n. after_byte (signs n next) c) e
    ∙ cond-true (letter c || digit c) (signs (4 - (at + 1)) (λ cs. next (c ∷ cs))) dead fits
    ∙ ap (signs (4 - (at + 1))) (fun_ext (λ cs. ap (λ ds. closing (line.Format k ds)) (longer cs)))
  where
    longer : (cs : List ℕ) → take at code ++ (c ∷ cs) ≡ take (at + 1) (set code at c) ++ cs
    longer cs = sym (ap (λ ds. ds ++ cs) (take_more_set code at c (omega arith)) ∙ append_assoc (take at code) (c ∷ []) cs)

pub code_stops : (k at c : ℕ) (code : List ℕ) → at < 4 → (letter c || digit c) ≡ false → after_byte (code_rest k at code) c ≡ dead
code_stops k at c code l no_sign =
    let e : 4 - at ≡ suc (4 - (at + 1)) = omega arith in
    let next : List ℕ → Rest = λ cs. closing (line.Format k (take at code ++ cs)) in
    ap (λ n. after_byte (signs n next) c) e ∙ cond-false (letter c || digit c) (signs (4 - (at + 1)) (λ cs. next (c ∷ cs))) dead no_sign

pub code_ends : (k at : ℕ) (code : List ℕ) → length code ≡ 4 → 4 ≤ at → code_rest k at code ≡ closing (line.Format k code)
code_ends k at code four l =
    let e : 4 - at ≡ 0 = omega arith in
    let next : List ℕ → Rest = λ cs. closing (line.Format k (take at code ++ cs)) in
    ap (λ n. signs n next) e ∙ ap (λ ds. closing (line.Format k ds)) (append-nil (take at code) ∙ take_all at code (omega arith))

no_letter : (c : ℕ) → (sort_of c ≡ Letter → ⊥) → letter c ≡ false
no_letter c n = grind (arith, nat_tests)

no_sign : (c : ℕ) → (sort_of c ≡ Letter → ⊥) → (sort_of c ≡ Digit → ⊥) → (letter c || digit c) ≡ false
no_sign c n m = grind (arith, nat_tests)

no_space : (c : ℕ) → (sort_of c ≡ Space → ⊥) → c ≡ 32 → ⊥
no_space c n e = grind (arith, nat_tests)

no_close : (c : ℕ) → (sort_of c ≡ Close → ⊥) → c ≡ 41 → ⊥
no_close c n e = grind (arith, nat_tests)

-- The reader in a word.
pub in_state : (r : Reader) (s : State) → r.state ≡ s → to_come r ≡ rest_at s r
in_state r s e = ap (λ t. rest_at t r) e

pub word_refuses : (r : Reader) (ls : List ℕ) (c : ℕ) → r.state ≡ InWord → ls ≡ letters_of r.word → r.at < length ls → letter c ≡ false → dead ≡ after_byte (to_come r) c
word_refuses r ls c e f l n =
    let k : r.at < length (letters_of r.word) = omega (arith, ap length f) in
    sym (ap (λ t. after_byte t c) (in_state r InWord e) ∙ word_inside r.stage r.word r.at c k n)

-- any other sign
pub word_stops : (r : Reader) (c : ℕ) → r.state ≡ InWord → (sort_of c ≡ Letter → ⊥) → (sort_of c ≡ Space → ⊥) → (sort_of c ≡ Close → ⊥) → dead ≡ after_byte (to_come r) c
word_stops r c e n s t = elim (cases_lt r.at (length (letters_of r.word))) [
  | inl l ↦ sym (ap (λ t. after_byte t c) (in_state r InWord e) ∙ word_inside r.stage r.word r.at c l (no_letter c n))
  | inr l ↦ sym (ap (λ t. after_byte t c) (in_state r InWord e ∙ fixed_ends (letters_of r.word) r.at (word_end r.stage r.word) l)
      ∙ word_after r.stage r.word c (no_space c s) (no_close c t))
]

-- The reader in a kind.
-- some kind's word begins with these letters
abbrev pub begins : List ℕ → Bool
begins ls = is_front ls (codes "delay") || is_front ls (codes "depth") || is_front ls (codes "both")

-- one letter more
pub kind_goes : (ls : List ℕ) (c : ℕ) → length ls < 5 → begins (ls ++ c ∷ []) ≡ true → kind_rest (ls ++ c ∷ []) ≡ after_byte (kind_rest ls) c
kind_goes [] c l h = grind (arith, nat_tests)
kind_goes (x ∷ []) c l h = grind (arith, nat_tests)
kind_goes (x ∷ y ∷ []) c l h = grind (arith, nat_tests)
kind_goes (x ∷ y ∷ z ∷ []) c l h = grind (arith, nat_tests)
kind_goes (x ∷ y ∷ z ∷ w ∷ []) c l h = grind (arith, nat_tests)
kind_goes (x ∷ y ∷ z ∷ w ∷ v ∷ ls) c l h = absurd (omega arith)

pub kind_refuses : (ls : List ℕ) (c : ℕ) → length ls < 5 → letter c ≡ true → begins (ls ++ c ∷ []) ≡ false → dead ≡ after_byte (kind_rest ls) c
kind_refuses [] c l k h = grind (arith, nat_tests)
kind_refuses (x ∷ []) c l k h = grind (arith, nat_tests)
kind_refuses (x ∷ y ∷ []) c l k h = grind (arith, nat_tests)
kind_refuses (x ∷ y ∷ z ∷ []) c l k h = grind (arith, nat_tests)
kind_refuses (x ∷ y ∷ z ∷ w ∷ []) c l k h = grind (arith, nat_tests)
kind_refuses (x ∷ y ∷ z ∷ w ∷ v ∷ ls) c l k h = absurd (omega arith)

pub front_is : (ls w : List ℕ) → is_front ls w ≡ true → ls ≡ take (length ls) w
front_is [] w h = refl
front_is (c ∷ cs) [] h = absurd (false≢true h)
front_is (c ∷ cs) (b ∷ w) h =
    let p = and_parts (eqb c b) (is_front cs w) h in
    λ i. eqb-true c b p.0 i ∷ front_is cs w p.1 i

pub front_short : (ls w : List ℕ) → is_front ls w ≡ true → length ls ≤ length w
front_short [] w h = omega arith
front_short (c ∷ cs) [] h = absurd (false≢true h)
front_short (c ∷ cs) (b ∷ w) h = omega (arith, front_short cs w (and_parts (eqb c b) (is_front cs w) h).1)

pub front_from : (ls w : List ℕ) → ls ≡ take (length ls) w → length ls ≤ length w → is_front ls w ≡ true
front_from [] w e l = refl
front_from (c ∷ cs) [] e l = absurd (omega arith)
front_from (c ∷ cs) (b ∷ w) e l = and_from (eqb c b) (is_front cs w) (eq-eqb c b (ap (λ x. get_or x 0 0) e)) (front_from cs w (ap (drop 1) e) (omega arith))

pub front_same : (ls w : List ℕ) (r : Bool) → length ls ≤ length w → Decides r (ls ≡ take (length ls) w) → r ≡ is_front ls w
front_same ls w true l d = sym (front_from ls w (d.0 refl) l)
front_same ls w false l d = sym (false_from_ne_true (is_front ls w) (λ h. false≢true (d.1 (front_is ls w h))))

-- a word and the space after it
spaced_at : (w : List ℕ) (at c : ℕ) → all_letters w ≡ true → at ≤ length w → letter c ≡ false → (c ≡ 32 → ⊥) → get_or (w ++ 32 ∷ []) at 0 ≡ c → ⊥
spaced_at [] zero c h l no_letter no_space e = no_space (sym e)
spaced_at [] (suc at) c h l no_letter no_space e = absurd (omega arith)
spaced_at (x ∷ w) zero c h l no_letter no_space e = both_ways (letter c) no_letter (sym (ap letter e) ∙ (and_parts (letter x) (all_letters w) h).0)
spaced_at (x ∷ w) (suc at) c h l no_letter no_space e = spaced_at w at c (and_parts (letter x) (all_letters w) h).1 (omega arith) no_letter no_space e

letter_of : (w : List ℕ) (at c : ℕ) → all_letters w ≡ true → at < length w → letter c ≡ false → get_or (w ++ 32 ∷ []) at 0 ≡ c → ⊥
letter_of w at c h l no_letter e = both_ways (letter c) no_letter (sym (ap letter (sym (get_or_append_left w (32 ∷ []) 0 at l) ∙ e)) ∙ letter_at w at h l)

-- a byte after some letters of a kind, by what they begin
kind_stops_at : (ls : List ℕ) (c : ℕ)
    → (length ls ≡ 0 → after_byte kind_choice c ≡ dead)
    → (is_front ls (codes "de") ≡ true → after_byte (fixed (drop (length ls) (codes "de")) de_choice) c ≡ dead)
    → (is_front ls (codes "delay") ≡ true → (get_or (codes "delay ") (length ls) 0 ≡ c → ⊥))
    → (is_front ls (codes "depth") ≡ true → (get_or (codes "depth ") (length ls) 0 ≡ c → ⊥))
    → (is_front ls (codes "both") ≡ true → (get_or (codes "both ") (length ls) 0 ≡ c → ⊥))
    → dead ≡ after_byte (kind_rest ls) c
kind_stops_at ls c none two delay depth both =
    let dies : Rest → Type 0 = λ t. dead ≡ after_byte t c in
    cond_both (eqb (length ls) 0) _ _ dies (λ h. sym (none (eqb-true (length ls) 0 h))) (λ _.
    cond_both (is_front ls (codes "de")) _ _ dies (λ h. sym (two h)) (λ _.
    cond_both (is_front ls (codes "delay")) _ _ dies (λ h. sym (fixed_stops (codes "delay ") (length ls) c (size_rest Delay) (omega (arith, front_short ls (codes "delay") h)) (delay h))) (λ _.
    cond_both (is_front ls (codes "depth")) _ _ dies (λ h. sym (fixed_stops (codes "depth ") (length ls) c (size_rest Depth) (omega (arith, front_short ls (codes "depth") h)) (depth h))) (λ _.
    cond_both (is_front ls (codes "both")) _ _ dies (λ h. sym (fixed_stops (codes "both ") (length ls) c (size_rest Both) (omega (arith, front_short ls (codes "both") h)) (both h))) (λ _.
    sym (stuck_stops (eqb c 0)))))))
  where
    stuck_stops : (t : Bool) → cond t dead dead ≡ dead
    stuck_stops true = refl
    stuck_stops false = refl

-- before the first letter, and after the first two that delay and depth have in common, no other byte than a letter
none_stops : (c : ℕ) → letter c ≡ false → after_byte kind_choice c ≡ dead
none_stops c other = grind (arith, nat_tests)

de_stops : (ls : List ℕ) (c : ℕ) → letter c ≡ false → after_byte (fixed (drop (length ls) (codes "de")) de_choice) c ≡ dead
de_stops ls c other = elim (cases_lt (length ls) 2) [
  | inl l ↦ fixed_stops (codes "de") (length ls) c de_choice l (λ same. both_ways (letter c) other (sym (ap letter same) ∙ letter_at (codes "de") (length ls) refl l))
  | inr l ↦ ap (λ t. after_byte t c) (fixed_ends (codes "de") (length ls) de_choice l) ∙ grind (arith, nat_tests)
]

-- what is neither a letter nor a space
pub kind_stops : (r : Reader) (c : ℕ) → r.state ≡ InKind → (sort_of c ≡ Letter → ⊥) → (sort_of c ≡ Space → ⊥) → dead ≡ after_byte (to_come r) c
kind_stops r c e n s =
    let other = no_letter c n in
    let ls = take r.at r.letters in
    kind_stops_at ls c (λ _. none_stops c other) (λ _. de_stops ls c other)
    (λ h. spaced_at (codes "delay") (length ls) c refl (front_short ls (codes "delay") h) other (no_space c s))
    (λ h. spaced_at (codes "depth") (length ls) c refl (front_short ls (codes "depth") h) other (no_space c s))
    (λ h. spaced_at (codes "both") (length ls) c refl (front_short ls (codes "both") h) other (no_space c s))
    ∙ sym (ap (λ t. after_byte t c) (in_state r InKind e))

-- a space, where the letters are no kind's word
pub kind_unnamed : (ls : List ℕ) → ((kind : Kind) → ls ≡ kind_text kind → ⊥) → dead ≡ after_byte (kind_rest ls) 32
kind_unnamed ls none =
    kind_stops_at ls 32 (λ _. none_stops 32 refl) (λ _. de_stops ls 32 refl) (λ h. part_of (codes "delay") refl h (none Delay)) (λ h. part_of (codes "depth") refl h (none Depth))
    (λ h. part_of (codes "both") refl h (none Both))
  where
    part_of : (w : List ℕ) → all_letters w ≡ true → is_front ls w ≡ true → (ls ≡ w → ⊥) → get_or (w ++ 32 ∷ []) (length ls) 0 ≡ 32 → ⊥
    part_of w h b apart e = elim (cases_lt (length ls) (length w)) [
      | inl l ↦ letter_of w (length ls) 32 h l refl e
      | inr l ↦ apart (front_is ls w b ∙ take_all (length ls) w l)
    ]

-- a letter, where they are as many as the longest word of a kind has
pub kind_whole : (ls : List ℕ) (c : ℕ) → length ls ≡ 5 → letter c ≡ true → dead ≡ after_byte (kind_rest ls) c
kind_whole ls c five h =
    kind_stops_at ls c (λ z. absurd (omega (arith, five, z))) (λ b. absurd (omega (arith, five, front_short ls (codes "de") b)))
    (λ _ e. both_ways (letter 32) refl (ap letter (ap (λ k. get_or (codes "delay ") k 0) (sym five) ∙ e) ∙ h))
    (λ _ e. both_ways (letter 32) refl (ap letter (ap (λ k. get_or (codes "depth ") k 0) (sym five) ∙ e) ∙ h))
    (λ b. absurd (omega (arith, five, front_short ls (codes "both") b)))

-- one more is collected
pub kind_taken : (r : Reader) (c : ℕ) (b : Bool) → r.state ≡ InKind → r.at < 5 → length r.letters ≡ 5 → letter c ≡ true
    → b ≡ begins (take (r.at + 1) (set r.letters r.at c))
    → left b (record r { at = r.at + 1; letters = set r.letters r.at c }) ≡ after_byte (to_come r) c
kind_taken r c b e l five is_letter fits =
    by_test b (fits ∙ ap begins taken) ∙ sym (ap (λ t. after_byte t c) (in_state r InKind e))
  where
    next : Reader
    next = record r { at = r.at + 1; letters = set r.letters r.at c }

    taken : take (r.at + 1) (set r.letters r.at c) ≡ take r.at r.letters ++ c ∷ []
    taken = take_more_set r.letters r.at c (omega (arith, five))

    few : length (take r.at r.letters) < 5
    few = omega (arith, length-take-le r.at r.letters (omega (arith, five)))

    by_test : (t : Bool) → t ≡ begins (take r.at r.letters ++ c ∷ []) → left t next ≡ after_byte (kind_rest (take r.at r.letters)) c
    by_test true h = in_state next InKind e ∙ ap kind_rest taken ∙ kind_goes (take r.at r.letters) c few (sym h)
    by_test false h = kind_refuses (take r.at r.letters) c few is_letter (sym h)

-- The reader in a cost: what follows a delay and what follows a depth is one sign, with or without a second part.
after_lines_stops : (two : Bool) (a b : ℕ) (z : ℤ) (c : ℕ) → (c ≡ 32 → ⊥) → (c ≡ 41 → ⊥) → after_byte (after_lines two a b z) c ≡ dead
after_lines_stops true a b z c s t = cond-false (eqb c 32) _ dead (ne_eqb c 32 s)
after_lines_stops false a b z c s t = cond-false (eqb c 41) _ dead (ne_eqb c 41 t)

after_bits_stops : (two : Bool) (a b : ℕ) (z w : ℤ) (c : ℕ) → (c ≡ 41 → ⊥) → after_byte (after_bits two a b z w) c ≡ dead
after_bits_stops true a b z w c t = cond-false (eqb c 41) _ dead (ne_eqb c 41 t)
after_bits_stops false a b z w c t = cond-false (eqb c 41) _ dead (ne_eqb c 41 t)

-- a byte of which no number and no half line is made
lines_end_stops : (next : ℤ → Rest) (minus : Bool) (n c : ℕ) → (c ≡ 46 → ⊥) → ((z : ℤ) → after_byte (next z) c ≡ dead) → after_byte (lines_end next minus n) c ≡ dead
lines_end_stops next minus n c p h =
    cond-false (eqb c 46) _ (after_byte (cond (minus && eqb n 0) dead (next (signed minus (2 * n)))) c) (ne_eqb c 46 p) ∙ by_test (minus && eqb n 0)
  where
    by_test : (t : Bool) → after_byte (cond t dead (next (signed minus (2 * n)))) c ≡ dead
    by_test true = refl
    by_test false = h (signed minus (2 * n))

no_number : (low : ℕ) (next : ℕ → Rest) (c : ℕ) → digit c ≡ false → after_byte (number low next) c ≡ dead
no_number low next c d = ap (λ t. cond (t && leb low (c - 48)) (digits (c - 48) next) dead) d

no_digits : (n : ℕ) (next : ℕ → Rest) (c : ℕ) → digit c ≡ false → after_byte (next n) c ≡ dead → after_byte (digits n next) c ≡ dead
no_digits n next c d h = cond-false (digit c) _ (after_byte (next n) c) d ∙ h

lines_reading_stops : (next : ℤ → Rest) (minus : Bool) (value : Option ℕ) (c : ℕ) → digit c ≡ false → (c ≡ 45 → ⊥) → (c ≡ 46 → ⊥) → ((z : ℤ) → after_byte (next z) c ≡ dead) → after_byte (lines_reading next minus value) c ≡ dead
lines_reading_stops next true (Some n) c d m p h = no_digits n (lines_end next true) c d (lines_end_stops next true n c p h)
lines_reading_stops next true None c d m p h = no_number 0 (lines_end next true) c d
lines_reading_stops next false (Some n) c d m p h = no_digits n (lines_end next false) c d (lines_end_stops next false n c p h)
lines_reading_stops next false None c d m p h = cond-false (eqb c 45) _ (after_byte (number 0 (lines_end next false)) c) (ne_eqb c 45 m) ∙ no_number 0 (lines_end next false) c d

bits_reading_stops : (next : ℤ → Rest) (minus : Bool) (value : Option ℕ) (c : ℕ) → digit c ≡ false → (c ≡ 45 → ⊥) → ((z : ℤ) → after_byte (next z) c ≡ dead) → after_byte (bits_reading next minus value) c ≡ dead
bits_reading_stops next true (Some n) c d m h = no_digits n (bits_end next true) c d (h (signed true n))
bits_reading_stops next true None c d m h = no_number 1 (bits_end next true) c d
bits_reading_stops next false (Some n) c d m h = no_digits n (bits_end next false) c d (h (signed false n))
bits_reading_stops next false None c d m h = cond-false (eqb c 45) _ (after_byte (number 0 (bits_end next false)) c) (ne_eqb c 45 m) ∙ no_number 0 (bits_end next false) c d

no_digit : (c : ℕ) → (sort_of c ≡ Digit → ⊥) → digit c ≡ false
no_digit c n = grind (arith, nat_tests)

no_minus : (c : ℕ) → (sort_of c ≡ Minus → ⊥) → c ≡ 45 → ⊥
no_minus c n e = grind (arith, nat_tests)

no_point : (c : ℕ) → (sort_of c ≡ Point → ⊥) → c ≡ 46 → ⊥
no_point c n e = grind (arith, nat_tests)

pub lines_stop : (r : Reader) (c : ℕ) → r.state ≡ Lines → (sort_of c ≡ Close → ⊥) → (sort_of c ≡ Space → ⊥) → (sort_of c ≡ Minus → ⊥) → (sort_of c ≡ Point → ⊥) → (sort_of c ≡ Digit → ⊥) → dead ≡ after_byte (to_come r) c
lines_stop r c e t s m p d = sym (ap (λ x. after_byte x c) (in_state r Lines e)
    ∙ lines_reading_stops (after_lines (of_two r.stage) r.first r.second) r.numeral.minus r.numeral.value c (no_digit c d) (no_minus c m) (no_point c p)
    (λ z. after_lines_stops (of_two r.stage) r.first r.second z c (no_space c s) (no_close c t)))

pub bits_stop : (r : Reader) (c : ℕ) → r.state ≡ Bits → (sort_of c ≡ Close → ⊥) → (sort_of c ≡ Minus → ⊥) → (sort_of c ≡ Digit → ⊥) → dead ≡ after_byte (to_come r) c
bits_stop r c e t m d = sym (ap (λ x. after_byte x c) (in_state r Bits e)
    ∙ bits_reading_stops (after_bits (of_two r.stage) r.first r.second r.half_lines) r.numeral.minus r.numeral.value c (no_digit c d) (no_minus c m)
    (λ w. after_bits_stops (of_two r.stage) r.first r.second r.half_lines w c (no_close c t)))

-- The reader in a code.
pub code_over : (r : Reader) → r.state ≡ InCode → length r.code ≡ 4 → 4 ≤ r.at → closing (line.Format r.first r.code) ≡ to_come r
code_over r e four h = sym (in_state r InCode e ∙ code_ends r.first r.at r.code four h)

-- what is no letter, no digit and, where the code is whole, no closing sign
pub code_refuses : (r : Reader) (c : ℕ) → r.state ≡ InCode → length r.code ≡ 4 → (sort_of c ≡ Letter → ⊥) → (sort_of c ≡ Digit → ⊥) → (4 ≤ r.at → c ≡ 41 → ⊥) → dead ≡ after_byte (to_come r) c
code_refuses r c e four n m t = elim (cases_lt r.at 4) [
  | inl l ↦ sym (ap (λ t. after_byte t c) (in_state r InCode e) ∙ code_stops r.first r.at c r.code l (no_sign c n m))
  | inr l ↦ sym (cond-false (eqb c 41) _ dead (ne_eqb _ _ (t l))) ∙ ap (λ t. after_byte t c) (code_over r e four l)
]

pub code_stops_there : (r : Reader) (c : ℕ) → r.state ≡ InCode → length r.code ≡ 4 → (sort_of c ≡ Letter → ⊥) → (sort_of c ≡ Digit → ⊥) → (sort_of c ≡ Close → ⊥) → dead ≡ after_byte (to_come r) c
code_stops_there r c e four n m t = code_refuses r c e four n m (λ l z. no_close c t z)
