-- The reader over the bytes of a text: what it knows at each place.
-- Where it waits, some allowed line goes on; where a byte is refused, none does.
use Rattle.std.proofs.Common.{◌≡◌, ℕ, ◌+◌, ◌-◌, ◌*◌, ◌<◌, ◌≤◌, Bool, true, false, cond, ◌&&◌, eqb, List, [], ◌∷◌, ◌++◌, length, get_or, take, drop, Some, None, Option, ℤ, codes, sym, refl, ap, ◌∙◌, subst, arith}
use Rattle.std.proofs.lemmas.List.{take_more, take_all, take-append-drop, drop-drop, get_or-drop, length-drop, length-take-le}
use Rattle.std.proofs.lemmas.Bool.{ne_eqb, cond-false, both_ways}
use Rattle.lines.specs.Signs.{digit}
use Rattle.lines.specs.Grammar.{line_text, Allowed, FourSigns, Fits, Unfinished, part, number_begins, code_begins, IsRead}
use Rattle.std.proofs.lemmas.Bool.{cond_both}
use Rattle.lines.specs.Rests.{Rest, dead, over, on, number, after_byte, fixed, letters_of, ending, closing, size_rest, code_rest, number_rest, signed, lines_end, lines_rest, bits_end, bits_rest, delay_end, depth_end, both_end, second_part, cost_rest, of_two, after_lines, after_bits, pair_end, to_rest, from_rest, de_choice, kind_choice, is_front, kind_rest, word_end, word_rest, first_rest, line_rest, reading, lines_reading, bits_reading, rest_at, to_come}
use Rattle.lines.specs.declared.line.Kind.{Kind}
use Rattle.lines.specs.declared.line.Kind.TheVariants.{Delay, Depth, Both}
use Rattle.lines.specs.declared.line.Amount.TheVariants as amount
use Rattle.lines.specs.declared.line.Amount.TheVariants.{HalfLines}
use Rattle.lines.specs.declared.line.Line.{Line}
use Rattle.lines.specs.declared.line.Line.TheVariants as line
use Rattle.lines.specs.declared.line.Read.{Read}
use Rattle.lines.specs.declared.line.Stage.{Stage}
use Rattle.lines.specs.declared.line.Stage.TheVariants.{Start, Formats, Cards, Legs}
use Rattle.lines.specs.declared.words.Word.{Word}
use Rattle.lines.specs.declared.words.Word.TheVariants.{Bay, Format, Card, Leg, End}
use Rattle.lines.specs.declared.words.Word.TheVariants as word
use Rattle.lines.specs.declared.reader.Reader.{Reader}
use Rattle.lines.specs.declared.reader.State.{State}
use Rattle.lines.specs.declared.reader.State.TheVariants.{Opening, First, InWord, InKind, Pair, Size, Number, From, To, PairEnd, Parts, Lines, Point, Half, Bits, Closing, InCode, Ending, Over}
use Rattle.lines.proofs.Runs.{run, run_append, not_dead, Fine, fine_run, ends, Waits, waits_not_dead, waits_fixed, waits_signs, Undigited, Live, live_fixed, live_signs, live_number, live_stopped}
use Rattle.lines.proofs.Lines.{complete, sound}

-- every stage has a line, and no way ends before it
live_over : (w : List ℕ) (l : Line) → Live (fixed w (over l))
live_over w l = live_fixed w (over l) (tt, tt)

live_size : (kind : Kind) → Live (size_rest kind)
live_size kind = live_stopped 0 41 (λ n. ending (line.Bay kind n)) (omega arith) refl (λ n. live_over (10 ∷ []) (line.Bay kind n))

live_de : Live de_choice
live_de =
    let d = live_fixed (codes "ay ") (size_rest Delay) (live_size Delay) in
    let e = live_fixed (codes "th ") (size_rest Depth) (live_size Depth) in
    ((d.0, d.1, (e.0, e.1, tt)), tt)

live_kind : Live kind_choice
live_kind =
    let b = live_fixed (codes "oth ") (size_rest Both) (live_size Both) in
    let d = live_fixed (codes "de") de_choice live_de in
    ((b.0, b.1, d.0), tt)

-- a minus, and then a number
live_signed : (low : ℕ) (below not_below : ℕ → Rest) → Live (number low below) → Live (number 0 not_below) → Live (on 45 (number low below) (number 0 not_below))
live_signed low below not_below m p = ((m.0, m.1, p.0), tt)

-- what follows a number: fine, waiting, and no digit
abbrev Follows : Rest → Type 0
Follows r = Fine r × Waits r × Undigited r

-- a byte that is no digit, and what follows it
follows_on : (b : ℕ) (r s : Rest) → digit b ≡ false → Live r → Fine s → Undigited s → Follows (on b r s)
follows_on b r s apart live fine undigited = ((live.0, live.1, fine), tt, λ c d. cond-false (eqb c b) r (after_byte s c) (ne_eqb c b (λ e. both_ways (digit c) (ap digit e ∙ apart) d)) ∙ undigited c d)

follows_then : (b : ℕ) (r : Rest) → digit b ≡ false → Live r → Follows (on b r dead)
follows_then b r apart live = follows_on b r dead apart live tt (λ c d. refl)

live_follows : (r : Rest) → Follows r → Live r
live_follows r h = (h.0, waits_not_dead r h.1)

-- what may follow the whole lines of a delay is no digit
follows_lines : (next : ℤ → Rest) → ((z : ℤ) → Follows (next z)) → (minus : Bool) (n : ℕ) → Follows (lines_end next minus n)
follows_lines next h minus n =
    follows_on 46 (fixed (codes "5") (next (signed minus (2 * n + 1)))) (cond (minus && eqb n 0) dead (next (signed minus (2 * n)))) refl
    (live_fixed (codes "5") (next (signed minus (2 * n + 1))) (live_follows _ (h _)))
    (by_test (minus && eqb n 0)).0 (by_test (minus && eqb n 0)).1
  where
    by_test : (t : Bool) → Fine (cond t dead (next (signed minus (2 * n)))) × Undigited (cond t dead (next (signed minus (2 * n))))
    by_test true = (tt, λ c d. refl)
    by_test false = ((h (signed minus (2 * n))).0, (h (signed minus (2 * n))).2)

live_lines : (next : ℤ → Rest) → ((z : ℤ) → Follows (next z)) → Live (lines_rest next)
live_lines next h =
    live_signed 0 (lines_end next true) (lines_end next false)
    (live_number 0 (lines_end next true) (omega arith) (follows_lines next h true))
    (live_number 0 (lines_end next false) (omega arith) (follows_lines next h false))

live_bits : (next : ℤ → Rest) → ((z : ℤ) → Follows (next z)) → Live (bits_rest next)
live_bits next h =
    live_signed 1 (bits_end next true) (bits_end next false)
    (live_number 1 (bits_end next true) (omega arith) (λ n. h (signed true n)))
    (live_number 0 (bits_end next false) (omega arith) (λ n. h (signed false n)))

follows_closing : (l : Line) → Follows (closing l)
follows_closing l = follows_then 41 (ending l) refl (live_over (10 ∷ []) l)

follows_both : (a b : ℕ) (z w : ℤ) → Follows (both_end a b z w)
follows_both a b z w = follows_then 41 (closing (line.Card a b (amount.Both z w))) refl (live_over (41 ∷ 10 ∷ []) (line.Card a b (amount.Both z w)))

follows_first : (a b : ℕ) (z : ℤ) → Follows (second_part a b z)
follows_first a b z = follows_then 32 (bits_rest (both_end a b z)) refl (live_bits (both_end a b z) (follows_both a b z))

live_cost : (kind : Kind) (a b : ℕ) → Live (cost_rest (Cards kind) a b)
live_cost Delay a b = live_lines (delay_end a b) (λ z. follows_closing (line.Card a b (HalfLines z)))
live_cost Depth a b = live_bits (depth_end a b) (λ z. follows_closing (line.Card a b (amount.Bits z)))
live_cost Both a b = live_fixed (codes "(") (lines_rest (second_part a b)) (live_lines (second_part a b) (follows_first a b))

live_card : (kind : Kind) → Live (word_rest (Cards kind) word.Card 1)
live_card kind = live_fixed (codes "ard (") (from_rest (Cards kind) word.Card) (live_stopped 0 32 (to_rest (Cards kind) word.Card) (omega arith) refl
    (λ a. live_stopped 0 41 (pair_end (Cards kind) word.Card a) (omega arith) refl (λ b. live_fixed (codes " ") (cost_rest (Cards kind) a b) (live_cost kind a b))))

live_leg : Live (word_rest Legs word.Leg 1)
live_leg = live_fixed (codes "eg (") (from_rest Legs word.Leg) (live_stopped 0 32 (to_rest Legs word.Leg) (omega arith) refl
    (λ a. live_stopped 0 41 (pair_end Legs word.Leg a) (omega arith) refl (λ b. live_over (41 ∷ 10 ∷ []) (line.Leg a b))))

live_end : Live (word_rest Legs word.End 1)
live_end = live_over (110 ∷ 100 ∷ 41 ∷ 10 ∷ []) line.End

live_legs : Live (first_rest Legs)
live_legs = ((live_leg.0, live_leg.1, (live_end.0, live_end.1, tt)), tt)

live_cards : (kind : Kind) → Live (first_rest (Cards kind))
live_cards kind = let k = live_card kind in ((k.0, k.1, live_legs.0), tt)

fine_line : (stage : Stage) → Fine (line_rest stage)
fine_line Start = (live_fixed (codes "(bay ") kind_choice live_kind).0
fine_line Formats = (live_fixed (codes "(format ") number_rest (live_stopped 0 32 (λ k. code_rest k 0 []) (omega arith) refl
    (λ k. live_signs 4 (λ cs. closing (line.Format k cs)) (λ cs. live_over (41 ∷ 10 ∷ []) (line.Format k cs))))).0
fine_line (Cards kind) = (live_fixed (codes "(") (first_rest (Cards kind)) (live_cards kind)).0
fine_line Legs = (live_fixed (codes "(") (first_rest Legs) live_legs).0

-- before its last byte the reader waits
waits_reading : (value : Option ℕ) (stop : ℕ) (next : ℕ → Rest) → Waits (reading value stop next)
waits_reading (Some n) stop next = tt
waits_reading None stop next = tt

waits_lines : (next : ℤ → Rest) (minus : Bool) (value : Option ℕ) → Waits (lines_reading next minus value)
waits_lines next true (Some n) = tt
waits_lines next true None = tt
waits_lines next false (Some n) = tt
waits_lines next false None = tt

waits_bits : (next : ℤ → Rest) (minus : Bool) (value : Option ℕ) → Waits (bits_reading next minus value)
waits_bits next true (Some n) = tt
waits_bits next true None = tt
waits_bits next false (Some n) = tt
waits_bits next false None = tt

waits_half : (two : Bool) (a b : ℕ) (z : ℤ) → Waits (after_lines two a b z)
waits_half true a b z = tt
waits_half false a b z = tt

waits_first : (stage : Stage) → Waits (first_rest stage)
waits_first Start = tt
waits_first Formats = tt
waits_first (Cards kind) = tt
waits_first Legs = tt

waits_word : (stage : Stage) (w : Word) → Waits (word_end stage w)
waits_word stage word.Bay = tt
waits_word stage word.Format = tt
waits_word stage word.Card = tt
waits_word stage word.Leg = tt
waits_word stage word.End = tt

waits_pair : (stage : Stage) (w : Word) (a b : ℕ) → Waits (pair_end stage w a b)
waits_pair stage word.Bay a b = tt
waits_pair stage word.Format a b = tt
waits_pair stage word.Card a b = tt
waits_pair stage word.Leg a b = tt
waits_pair stage word.End a b = tt

waits_kind : (ls : List ℕ) → Waits (kind_rest ls)
waits_kind ls =
    cond_both (eqb (length ls) 0) _ _ Waits (λ _. tt) (λ _.
    cond_both (is_front ls (codes "de")) _ _ Waits (λ _. waits_fixed (drop (length ls) (codes "de")) de_choice tt) (λ _.
    cond_both (is_front ls (codes "delay")) _ _ Waits (λ _. waits_fixed (drop (length ls) (codes "delay ")) (size_rest Delay) tt) (λ _.
    cond_both (is_front ls (codes "depth")) _ _ Waits (λ _. waits_fixed (drop (length ls) (codes "depth ")) (size_rest Depth) tt) (λ _.
    cond_both (is_front ls (codes "both")) _ _ Waits (λ _. waits_fixed (drop (length ls) (codes "both ")) (size_rest Both) tt) (λ _. tt)))))

waits_at : (s : State) (r : Reader) → (s ≡ Over → ⊥) → Waits (rest_at s r)
waits_at Opening r n = tt
waits_at First r n = waits_first r.stage
waits_at InWord r n = waits_fixed (drop r.at (letters_of r.word)) (word_end r.stage r.word) (waits_word r.stage r.word)
waits_at InKind r n = waits_kind (take r.at r.letters)
waits_at Pair r n = tt
waits_at Size r n = waits_reading r.numeral.value 41 (λ n. ending (line.Bay r.kind n))
waits_at Number r n = waits_reading r.numeral.value 32 (λ k. code_rest k 0 [])
waits_at From r n = waits_reading r.numeral.value 32 (λ a. to_rest r.stage r.word a)
waits_at To r n = waits_reading r.numeral.value 41 (λ b. pair_end r.stage r.word r.first b)
waits_at PairEnd r n = waits_pair r.stage r.word r.first r.second
waits_at Parts r n = tt
waits_at Lines r n = waits_lines (after_lines (of_two r.stage) r.first r.second) r.numeral.minus r.numeral.value
waits_at Point r n = tt
waits_at Half r n = waits_half (of_two r.stage) r.first r.second r.half_lines
waits_at Bits r n = waits_bits (after_bits (of_two r.stage) r.first r.second r.half_lines) r.numeral.minus r.numeral.value
waits_at Closing r n = tt
waits_at InCode r n = waits_signs (4 - r.at) (λ cs. closing (line.Format r.first (take r.at r.code ++ cs))) (λ cs. tt)
waits_at Ending r n = tt
waits_at Over r n = absurd (n refl)

pub not_over : (r : Reader) (t : Rest) → to_come r ≡ t → Waits t → r.state ≡ Over → ⊥
not_over r t e w o = subst Waits (sym e ∙ ap (λ s. rest_at s r) o) w

-- some line goes on
unfinished : (stage : Stage) (bytes : List ℕ) → Waits (run (line_rest stage) bytes) → Unfinished stage bytes
unfinished stage bytes w =
    let k = ends (run (line_rest stage) bytes) (fine_run (line_rest stage) bytes (fine_line stage)) (waits_not_dead _ w) in
    go k.line k.rest k.runs
  where
    go : (l : Line) (rest : List ℕ) → run (run (line_rest stage) bytes) rest ≡ over l → Unfinished stage bytes
    go l [] e = absurd (subst Waits e w)
    go l (b ∷ rest) e =
        let s = sound stage (bytes ++ (b ∷ rest)) l (run_append (line_rest stage) bytes (b ∷ rest) ∙ e) in
        record { line = l; byte = b; rest = rest; allowed = s.0; whole = s.1 }

pub waiting : (stage : Stage) (bytes : List ℕ) (r : Reader) → to_come r ≡ run (line_rest stage) bytes → (r.state ≡ Over → ⊥) → Unfinished stage bytes
waiting stage bytes r e n = unfinished stage bytes (subst Waits e (waits_at r.state r n))

-- a line has come to its end
pub was_read : (stage : Stage) (bytes : List ℕ) (r : Reader) → to_come r ≡ run (line_rest stage) bytes → r.state ≡ Over → Allowed stage r.line × (line_text r.line ≡ bytes)
was_read stage bytes r e o = sound stage bytes r.line (sym e ∙ ap (λ s. rest_at s r) o)

-- none does
pub refused : (stage : Stage) (bytes : List ℕ) → run (line_rest stage) bytes ≡ dead → Fits stage bytes → ⊥
refused stage bytes e f =
    not_dead f.rest f.line (
    ap (λ t. run t f.rest) (sym e)
    ∙ sym (run_append (line_rest stage) bytes f.rest)
    ∙ ap (run (line_rest stage)) (sym f.whole)
    ∙ complete stage f.line f.allowed)

-- one byte more
pub part_more : (text : List ℕ) (from place : ℕ) → from ≤ place → place < length text → part text from (place + 1) ≡ part text from place ++ (get_or text place 0 ∷ [])
part_more text from place l m =
    let e : (place + 1) - from ≡ (place - from) + 1 = omega arith in
    let f : from + (place - from) ≡ place = omega arith in
    ap (λ n. take n (drop from text)) e
    ∙ take_more (drop from text) (place - from) 0 (omega (arith, length-drop from text))
    ∙ ap (λ x. take (place - from) (drop from text) ++ (x ∷ [])) (get_or-drop from text (place - from) 0 ∙ ap (λ n. get_or text n 0) f)

pub run_more : (stage : Stage) (text : List ℕ) (from place : ℕ) {r t : Rest} → from ≤ place → place < length text → r ≡ run (line_rest stage) (part text from place) → t ≡ after_byte r (get_or text place 0) →
    t ≡ run (line_rest stage) (part text from (place + 1))
run_more stage text from place l m e f =
    f ∙ ap (λ r. after_byte r (get_or text place 0)) e
    ∙ sym (ap (run (line_rest stage)) (part_more text from place l m) ∙ run_append (line_rest stage) (part text from place) (get_or text place 0 ∷ []))

pub part_none : (text : List ℕ) (from : ℕ) → part text from from ≡ []
part_none text from = let e : from - from ≡ 0 = omega arith in ap (λ n. take n (drop from text)) e

-- past the end nothing comes
pub part_all : (text : List ℕ) (from place : ℕ) → length text ≤ place → part text from place ≡ part text from (length text)
part_all text from place l =
    take_all (place - from) (drop from text) (omega (arith, length-drop from text))
    ∙ sym (take_all (length text - from) (drop from text) (omega (arith, length-drop from text)))

-- the end of a line
pub part_length : (text : List ℕ) (from end : ℕ) → from ≤ end → end ≤ length text → end ≡ from + length (part text from end)
part_length text from end l m =
    let e = length-take-le (end - from) (drop from text) (omega (arith, length-drop from text)) in
    omega (arith, e)

pub part_split : (text : List ℕ) (from end : ℕ) → from ≤ end → drop from text ≡ part text from end ++ drop end text
part_split text from end l =
    let e : from + (end - from) ≡ end = omega arith in
    sym (take-append-drop (end - from) (drop from text))
    ∙ ap (λ ds. part text from end ++ ds) (drop-drop (end - from) from text ∙ ap (λ n. drop n text) e)

pub coded : (stage : Stage) (l : Line) → Allowed stage l → FourSigns l
coded Start (line.Bay kind n) h = tt
coded Start (line.Format k code) h = absurd h
coded Start (line.Card a b cost) h = tt
coded Start (line.Leg a b) h = tt
coded Start line.End h = tt
coded Formats (line.Bay kind n) h = tt
coded Formats (line.Format k code) h = h.1.0
coded Formats (line.Card a b cost) h = tt
coded Formats (line.Leg a b) h = tt
coded Formats line.End h = tt
coded (Cards kind) (line.Bay other n) h = tt
coded (Cards kind) (line.Format k code) h = absurd h
coded (Cards kind) (line.Card a b cost) h = tt
coded (Cards kind) (line.Leg a b) h = tt
coded (Cards kind) line.End h = tt
coded Legs (line.Bay kind n) h = tt
coded Legs (line.Format k code) h = absurd h
coded Legs (line.Card a b cost) h = tt
coded Legs (line.Leg a b) h = tt
coded Legs line.End h = tt

-- what is answered where a line ends
pub line_ends : (stage : Stage) (text : List ℕ) (from end : ℕ) (r : Reader) → from ≤ end → end ≤ length text → to_come r ≡ run (line_rest stage) (part text from end) → r.state ≡ Over → FourSigns r.line × (end ≡ from + length (line_text r.line))
line_ends stage text from end r l m e o =
    let h = was_read stage (part text from end) r e o in
    (coded stage r.line h.0, part_length text from end l m ∙ ap (λ bs. from + length bs) (sym h.1))

pub is_read : (stage : Stage) (text : List ℕ) (from end : ℕ) (r : Reader) (a : Read) → from ≤ end → end ≤ length text → to_come r ≡ run (line_rest stage) (part text from end) → r.state ≡ Over → (a.line ≡ r.line) × (a.end ≡ end) → a.number_place ≡ number_begins from r.line → a.code_place ≡ code_begins from r.line → IsRead stage text from a
is_read stage text from end r a l m e o same n c =
    let h = was_read stage (part text from end) r e o in
    let k = line_ends stage text from end r l m e o in
    record {
      allowed = subst (Allowed stage) (sym same.0) h.0;
      whole =
          part_split text from end l
          ∙ ap (λ bs. bs ++ drop end text) (sym h.1)
          ∙ ap (λ x. line_text x ++ drop end text) (sym same.0)
          ∙ ap (λ x. line_text a.line ++ drop x text) (sym same.1);
      ends = same.1 ∙ k.1 ∙ ap (λ x. from + length (line_text x)) (sym same.0);
      number = n ∙ ap (number_begins from) (sym same.0);
      code = c ∙ ap (code_begins from) (sym same.0);
    }
