-- What may still come of a line after some of its bytes, and what the line reader knows of it.
-- The proofs show that the rests of a stage's first byte are the texts of its allowed lines.
use Rattle.std.specs.Prelude.{ℕ, zero, suc, ◌+◌, ◌-◌, ◌*◌, Bool, true, false, cond, ◌&&◌, ◌||◌, List, [], ◌∷◌, ◌++◌, length, take, drop, pos, neg_ℤ, Some, None, codes, Option, ℤ, ◌==◌, nat_le, nat_lt, slice_index}
use Rattle.lines.specs.Signs.{digit, letter, line_end}
use Rattle.lines.specs.declared.line.Amount.{Amount}
use Rattle.lines.specs.declared.line.Amount.TheVariants.{HalfLines, Bits}
use Rattle.lines.specs.declared.line.Amount.TheVariants as amount
use Rattle.lines.specs.declared.line.Kind.{Kind}
use Rattle.lines.specs.declared.line.Kind.TheVariants.{Delay, Depth, Both}
use Rattle.lines.specs.declared.line.Line.{Line}
use Rattle.lines.specs.declared.line.Line.TheVariants as line
use Rattle.lines.specs.declared.line.Stage.{Stage}
use Rattle.lines.specs.declared.line.Stage.TheVariants.{Start, Formats, Cards, Legs}
use Rattle.lines.specs.declared.words.Word.{Word}
use Rattle.lines.specs.declared.words.Word.TheVariants as word
use Rattle.lines.specs.declared.reader.State.{State}
use Rattle.lines.specs.declared.reader.State.TheVariants as state
use Rattle.lines.specs.declared.reader.State.TheVariants.{Opening, First, InWord, InKind, Pair, Size, Number, From, To, PairEnd, Parts, Lines, Point, Half, Closing, InCode, Ending, Over}
use Rattle.lines.specs.declared.reader.Reader.{Reader}

pub data Rest : Type 0 where
  -- nothing fits
  dead : Rest
  -- the line was read
  over : Line → Rest
  -- this byte and then the first; or the second
  on : ℕ → Rest → Rest → Rest
  -- a number of at least so much, and what follows it, which no digit begins
  number : ℕ → (ℕ → Rest) → Rest
  -- the same, where some digits were read
  digits : ℕ → (ℕ → Rest) → Rest
  -- a letter or a digit, and what follows
  sign : (ℕ → Rest) → Rest

-- a number of six digits can have a seventh; 0 has no other digit
abbrev pub grows : ℕ → Bool
grows n = nat_lt 0 n && nat_lt n 1_000_000

-- what may come after one byte more
abbrev pub after_byte : Rest → ℕ → Rest
after_byte dead c = dead
after_byte (over l) c = dead
after_byte (on b r s) c = cond (c == b) r (after_byte s c)
after_byte (number low next) c = cond (digit c && nat_le low (c - 48)) (digits (c - 48) next) dead
after_byte (digits n next) c = cond (digit c) (cond (grows n) (digits (n * 10 + (c - 48)) next) dead) (after_byte (next n) c)
after_byte (sign next) c = cond (letter c || digit c) (next c) dead

abbrev pub fixed : List ℕ → Rest → Rest
fixed [] r = r
fixed (b ∷ bs) r = on b (fixed bs r) dead

-- a byte that ends a number, and what follows
abbrev pub until : ℕ → (ℕ → Rest) → ℕ → Rest
until stop next n = on stop (next n) dead

-- so many letters or digits
abbrev pub signs : ℕ → (List ℕ → Rest) → Rest
signs zero next = next []
signs (suc n) next = sign (λ c. signs n (λ cs. next (c ∷ cs)))

abbrev pub letters_of : Word → List ℕ
letters_of word.Bay = codes "bay"
letters_of word.Format = codes "format"
letters_of word.Card = codes "card"
letters_of word.Leg = codes "leg"
letters_of word.End = codes "end"

abbrev pub ending : Line → Rest
ending l = fixed (line_end ∷ []) (over l)

abbrev pub closing : Line → Rest
closing l = fixed (codes ")") (ending l)

abbrev pub size_rest : Kind → Rest
size_rest kind = number 0 (until 41 (λ n. ending (line.Bay kind n)))

abbrev pub code_rest : ℕ → ℕ → List ℕ → Rest
code_rest k at code = signs (4 - at) (λ cs. closing (line.Format k (take at code ++ cs)))

abbrev pub number_rest : Rest
number_rest = number 0 (until 32 (λ k. code_rest k 0 []))

-- so many, below 0 after a minus
abbrev pub signed : Bool → ℕ → ℤ
signed true n = neg_ℤ (pos n)
signed false n = pos n

-- what follows n whole lines: half a line more and the rest, or the rest at once, but after a minus and 0 the half line alone
abbrev pub lines_end : (ℤ → Rest) → Bool → ℕ → Rest
lines_end next minus n =
    on 46 (fixed (codes "5") (next (signed minus (2 * n + 1)))) (
    cond (minus && n == 0) dead (next (signed minus (2 * n))))

-- a delay, and what follows so many half lines
abbrev pub lines_rest : (ℤ → Rest) → Rest
lines_rest next = on 45 (number 0 (lines_end next true)) (number 0 (lines_end next false))

abbrev pub bits_end : (ℤ → Rest) → Bool → ℕ → Rest
bits_end next minus n = next (signed minus n)

-- a depth, and what follows so many bits
abbrev pub bits_rest : (ℤ → Rest) → Rest
bits_rest next = on 45 (number 1 (bits_end next true)) (number 0 (bits_end next false))

-- the end of a card line whose cost is a delay, a depth, or one of each
abbrev pub delay_end : ℕ → ℕ → ℤ → Rest
delay_end a b z = closing (line.Card a b (HalfLines z))

abbrev pub depth_end : ℕ → ℕ → ℤ → Rest
depth_end a b w = closing (line.Card a b (Bits w))

abbrev pub both_end : ℕ → ℕ → ℤ → ℤ → Rest
both_end a b z w = fixed (codes ")") (closing (line.Card a b (amount.Both z w)))

-- the second part of a cost
abbrev pub second_part : ℕ → ℕ → ℤ → Rest
second_part a b z = fixed (codes " ") (bits_rest (both_end a b z))

-- the cost of a card line, by the kind of the bay line; no other stage has card lines
abbrev pub cost_rest : Stage → ℕ → ℕ → Rest
cost_rest Start a b = bits_rest (depth_end a b)
cost_rest Formats a b = bits_rest (depth_end a b)
cost_rest (Cards Delay) a b = lines_rest (delay_end a b)
cost_rest (Cards Depth) a b = bits_rest (depth_end a b)
cost_rest (Cards Both) a b = fixed (codes "(") (lines_rest (second_part a b))
cost_rest Legs a b = bits_rest (depth_end a b)

-- whether a cost has two parts
abbrev pub of_two : Stage → Bool
of_two Start = false
of_two Formats = false
of_two (Cards Delay) = false
of_two (Cards Depth) = false
of_two (Cards Both) = true
of_two Legs = false

-- what follows a delay, and what follows a depth, where a cost has two parts and where not
abbrev pub after_lines : Bool → ℕ → ℕ → ℤ → Rest
after_lines two a b z = cond two (second_part a b z) (delay_end a b z)

abbrev pub after_bits : Bool → ℕ → ℕ → ℤ → ℤ → Rest
after_bits two a b z w = cond two (both_end a b z w) (depth_end a b w)

-- what follows a pair: the end after the word of a leg, and else a cost
abbrev pub pair_end : Stage → Word → ℕ → ℕ → Rest
pair_end stage word.Bay a b = fixed (codes " ") (cost_rest stage a b)
pair_end stage word.Format a b = fixed (codes " ") (cost_rest stage a b)
pair_end stage word.Card a b = fixed (codes " ") (cost_rest stage a b)
pair_end stage word.Leg a b = closing (line.Leg a b)
pair_end stage word.End a b = fixed (codes " ") (cost_rest stage a b)

abbrev pub to_rest : Stage → Word → ℕ → Rest
to_rest stage w a = number 0 (until 41 (λ b. pair_end stage w a b))

abbrev pub from_rest : Stage → Word → Rest
from_rest stage w = number 0 (until 32 (λ a. to_rest stage w a))

-- what may come of a kind, and of one after the first two letters that delay and depth have in common
abbrev pub de_choice : Rest
de_choice =
    on 108 (fixed (codes "ay ") (size_rest Delay)) (
    on 112 (fixed (codes "th ") (size_rest Depth)) dead)

abbrev pub kind_choice : Rest
kind_choice = on 98 (fixed (codes "oth ") (size_rest Both)) (fixed (codes "de") de_choice)

-- the second begins with the first
abbrev pub is_front : List ℕ → List ℕ → Bool
is_front [] w = true
is_front (c ∷ cs) [] = false
is_front (c ∷ cs) (b ∷ w) = (c == b) && is_front cs w

-- no byte fits, where the reader waits for one
abbrev pub stuck : Rest
stuck = on 0 dead dead

-- what may still come of a kind after these letters
abbrev pub kind_rest : List ℕ → Rest
kind_rest letters =
    let at = length letters in
    cond (at == 0) kind_choice (
    cond (is_front letters (codes "de")) (fixed (drop at (codes "de")) de_choice) (
    cond (is_front letters (codes "delay")) (fixed (drop at (codes "delay ")) (size_rest Delay)) (
    cond (is_front letters (codes "depth")) (fixed (drop at (codes "depth ")) (size_rest Depth)) (
    cond (is_front letters (codes "both")) (fixed (drop at (codes "both ")) (size_rest Both)) stuck))))

-- what follows a word
abbrev pub word_end : Stage → Word → Rest
word_end stage word.Bay = fixed (codes " ") (kind_rest [])
word_end stage word.Format = fixed (codes " ") number_rest
word_end stage word.Card = fixed (codes " (") (from_rest stage word.Card)
word_end stage word.Leg = fixed (codes " (") (from_rest stage word.Leg)
word_end stage word.End = closing line.End

abbrev pub word_rest : Stage → Word → ℕ → Rest
word_rest stage w at = fixed (drop at (letters_of w)) (word_end stage w)

-- the word of an allowed line, by its first letter
abbrev pub word_by : Stage → ℕ → Option Word
word_by Start c = cond (c == 98) (Some word.Bay) None
word_by Formats c = cond (c == 102) (Some word.Format) None
word_by (Cards kind) c = cond (c == 99) (Some word.Card) (cond (c == 108) (Some word.Leg) (cond (c == 101) (Some word.End) None))
word_by Legs c = cond (c == 108) (Some word.Leg) (cond (c == 101) (Some word.End) None)

abbrev pub first_rest : Stage → Rest
first_rest Start = on 98 (word_rest Start word.Bay 1) dead
first_rest Formats = on 102 (word_rest Formats word.Format 1) dead
first_rest (Cards kind) =
    on 99 (word_rest (Cards kind) word.Card 1) (on 108 (word_rest (Cards kind) word.Leg 1) (on 101 (word_rest (Cards kind) word.End 1) dead))
first_rest Legs = on 108 (word_rest Legs word.Leg 1) (on 101 (word_rest Legs word.End 1) dead)

-- all that may come of a line
abbrev pub line_rest : Stage → Rest
line_rest stage = fixed (codes "(") (first_rest stage)

-- a number of which the digits so far, if any, are known
abbrev pub reading : Option ℕ → ℕ → (ℕ → Rest) → Rest
reading (Some n) stop next = digits n (until stop next)
reading None stop next = number 0 (until stop next)

abbrev pub lines_reading : (ℤ → Rest) → Bool → Option ℕ → Rest
lines_reading next true (Some n) = digits n (lines_end next true)
lines_reading next true None = number 0 (lines_end next true)
lines_reading next false (Some n) = digits n (lines_end next false)
lines_reading next false None = lines_rest next

abbrev pub bits_reading : (ℤ → Rest) → Bool → Option ℕ → Rest
bits_reading next true (Some n) = digits n (bits_end next true)
bits_reading next true None = number 1 (bits_end next true)
bits_reading next false (Some n) = digits n (bits_end next false)
bits_reading next false None = bits_rest next

-- what the reader, in its state, still looks for
abbrev pub rest_at : State → Reader → Rest
rest_at Opening r = line_rest r.stage
rest_at First r = first_rest r.stage
rest_at InWord r = word_rest r.stage r.word r.at
rest_at InKind r = kind_rest (take r.at r.letters)
rest_at Pair r = fixed (codes "(") (from_rest r.stage r.word)
rest_at Size r = reading r.numeral.value 41 (λ n. ending (line.Bay r.kind n))
rest_at Number r = reading r.numeral.value 32 (λ k. code_rest k 0 [])
rest_at From r = reading r.numeral.value 32 (λ a. to_rest r.stage r.word a)
rest_at To r = reading r.numeral.value 41 (λ b. pair_end r.stage r.word r.first b)
rest_at PairEnd r = pair_end r.stage r.word r.first r.second
rest_at Parts r = fixed (codes "(") (lines_rest (after_lines (of_two r.stage) r.first r.second))
rest_at Lines r = lines_reading (after_lines (of_two r.stage) r.first r.second) r.numeral.minus r.numeral.value
rest_at Point r = fixed (codes "5") (after_lines (of_two r.stage) r.first r.second r.half_lines)
rest_at Half r = after_lines (of_two r.stage) r.first r.second r.half_lines
rest_at state.Bits r = bits_reading (after_bits (of_two r.stage) r.first r.second r.half_lines) r.numeral.minus r.numeral.value
rest_at Closing r = closing r.line
rest_at InCode r = code_rest r.first r.at r.code
rest_at Ending r = ending r.line
rest_at Over r = over r.line

abbrev pub to_come : Reader → Rest
to_come r = rest_at r.state r

-- after a step: nothing fits where it was refused
abbrev pub left : Bool → Reader → Rest
left true r = to_come r
left false r = dead

-- one digit more
abbrev pub takes_digit : Option ℕ → Bool
takes_digit (Some n) = grows n
takes_digit None = true

abbrev pub with_digit : Option ℕ → ℕ → Option ℕ
with_digit (Some n) c = Some (n * 10 + (c - 48))
with_digit None c = Some (c - 48)

-- one letter more
abbrev pub takes_letter : List ℕ → ℕ → ℕ → Bool
takes_letter letters at c = nat_lt at (length letters) && slice_index letters at == c

abbrev pub with_letter : Reader → Reader
with_letter r = record r { at = r.at + 1 }
