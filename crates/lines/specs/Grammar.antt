-- The lines of a ticket as texts, which of them are allowed where, and what it is to read one.
-- A line is one form and a line end; one space stands between words, and none elsewhere.
use Rattle.std.specs.Prelude.{◌≡◌, ℕ, suc, ◌+◌, ◌-◌, ◌*◌, ◌/◌, ◌%◌, ◌<◌, ◌≤◌, true, cond, ◌||◌, ◌⊎◌, List, [], ◌∷◌, ◌++◌, length, take, drop, ℤ, pos, negsuc, Ok, Err, codes, decimal, Result, unsigned_abs, ◌==◌}
use Rattle.std.specs.Fmt.{signed_decimal}
use Rattle.std.specs.List.{AllByRecursion}
use Rattle.lines.specs.Signs.{digit, letter, line_end}
use Rattle.lines.specs.declared.line.Amount.{Amount}
use Rattle.lines.specs.declared.line.Amount.TheVariants.{HalfLines, Bits}
use Rattle.lines.specs.declared.line.Amount.TheVariants as amount
use Rattle.lines.specs.declared.line.Kind.{Kind}
use Rattle.lines.specs.declared.line.Kind.TheVariants.{Delay, Depth, Both}
use Rattle.lines.specs.declared.line.Line.{Line}
use Rattle.lines.specs.declared.line.Line.TheVariants.{Bay, Format, Card, Leg, End}
use Rattle.lines.specs.declared.line.Stage.{Stage}
use Rattle.lines.specs.declared.line.Stage.TheVariants.{Start, Formats, Cards, Legs}
use Rattle.lines.specs.declared.line.Read.{Read}
use Rattle.lines.specs.declared.line.Unfit.{Unfit}

abbrev pub kind_text : Kind → List ℕ
kind_text Delay = codes "delay"
kind_text Depth = codes "depth"
kind_text Both = codes "both"

-- The text of a delay, in tickets and in answers: sign, whole lines, and `.5` where the number of half lines is odd.
abbrev pub lines_text : ℕ → List ℕ
lines_text h = decimal (h / 2) ++ cond (h % 2 == 1) (codes ".5") []

abbrev pub delay_text : ℤ → List ℕ
delay_text (pos h) = lines_text h
delay_text (negsuc h) = codes "-" ++ lines_text (suc h)

-- the text of a delay and a depth
abbrev pub both_text : ℤ → ℤ → List ℕ
both_text z w = codes "(" ++ (delay_text z ++ (codes " " ++ (signed_decimal w ++ codes ")")))

-- the text of a cost
abbrev pub amount_text : Amount → List ℕ
amount_text (HalfLines z) = delay_text z
amount_text (Bits z) = signed_decimal z
amount_text (amount.Both z w) = both_text z w

-- What a line looks like. Numbers are written in digits with no zero in front.
abbrev pub line_text : Line → List ℕ
line_text (Bay kind n) = codes "(bay " ++ (kind_text kind ++ (codes " " ++ (decimal n ++ (codes ")" ++ (line_end ∷ [])))))
line_text (Format k code) = codes "(format " ++ (decimal k ++ (codes " " ++ (code ++ (codes ")" ++ (line_end ∷ [])))))
line_text (Card a b cost) = codes "(card (" ++ (decimal a ++ (codes " " ++ (decimal b ++ (codes ") " ++ (amount_text cost ++ (codes ")" ++ (line_end ∷ [])))))))
line_text (Leg a b) = codes "(leg (" ++ (decimal a ++ (codes " " ++ (decimal b ++ (codes "))" ++ (line_end ∷ [])))))
line_text End = codes "(end)" ++ (line_end ∷ [])

-- a number has at most seven digits
abbrev pub too_large : ℕ
too_large = 10_000_000

-- a cost as a bay of the kind has it: a delay with so many whole lines, a depth with so many bits, or one of each
abbrev pub AmountOf : Kind → Amount → Type 0
AmountOf Delay (HalfLines z) = unsigned_abs z / 2 < too_large
AmountOf Delay (Bits z) = ⊥
AmountOf Delay (amount.Both z w) = ⊥
AmountOf Depth (HalfLines z) = ⊥
AmountOf Depth (Bits z) = unsigned_abs z < too_large
AmountOf Depth (amount.Both z w) = ⊥
AmountOf Both (HalfLines z) = ⊥
AmountOf Both (Bits z) = ⊥
AmountOf Both (amount.Both z w) = (unsigned_abs z / 2 < too_large) × (unsigned_abs w < too_large)

-- four letters or digits
abbrev pub Code : List ℕ → Type 0
Code code = (length code ≡ 4) × AllByRecursion (λ c. (letter c || digit c) ≡ true) code

-- The bay line comes first, then the formats, then cards and legs; no card comes after a leg.
abbrev pub Allowed : Stage → Line → Type 0
Allowed Start (Bay kind n) = n < too_large
Allowed Start (Format k code) = ⊥
Allowed Start (Card a b cost) = ⊥
Allowed Start (Leg a b) = ⊥
Allowed Start End = ⊥
Allowed Formats (Bay kind n) = ⊥
Allowed Formats (Format k code) = (k < too_large) × Code code
Allowed Formats (Card a b cost) = ⊥
Allowed Formats (Leg a b) = ⊥
Allowed Formats End = ⊥
Allowed (Cards kind) (Bay other n) = ⊥
Allowed (Cards kind) (Format k code) = ⊥
Allowed (Cards kind) (Card a b cost) = (a < too_large) × (b < too_large) × AmountOf kind cost
Allowed (Cards kind) (Leg a b) = (a < too_large) × (b < too_large)
Allowed (Cards kind) End = Unit {0}
Allowed Legs (Bay kind n) = ⊥
Allowed Legs (Format k code) = ⊥
Allowed Legs (Card a b cost) = ⊥
Allowed Legs (Leg a b) = (a < too_large) × (b < too_large)
Allowed Legs End = Unit {0}

-- some allowed line begins with these bytes
pub record Fits (stage : Stage) (bytes : List ℕ) : Type 0 where
  pub line : Line
  pub rest : List ℕ
  pub allowed : Allowed stage line
  pub whole : line_text line ≡ bytes ++ rest

-- some allowed line begins with these bytes, and goes on
pub record Unfinished (stage : Stage) (bytes : List ℕ) : Type 0 where
  pub line : Line
  pub byte : ℕ
  pub rest : List ℕ
  pub allowed : Allowed stage line
  pub whole : line_text line ≡ bytes ++ (byte ∷ rest)

-- the bytes of a text from one place to another
abbrev pub part : List ℕ → ℕ → ℕ → List ℕ
part text from to = take (to - from) (drop from text)

-- how far into a bay line of the kind its number of formats stands
abbrev pub size_begins : Kind → ℕ
size_begins kind = 6 + length (kind_text kind)

-- where the first number of a line begins, and its code; the end, where it has none
abbrev pub number_begins : ℕ → Line → ℕ
number_begins from (Bay kind n) = from + size_begins kind
number_begins from (Format k code) = from + 8
number_begins from (Card a b cost) = from + 7
number_begins from (Leg a b) = from + 6
number_begins from End = from + 6

abbrev pub code_begins : ℕ → Line → ℕ
code_begins from (Bay kind n) = from + length (line_text (Bay kind n))
code_begins from (Format k code) = from + (9 + length (decimal k))
code_begins from (Card a b cost) = from + length (line_text (Card a b cost))
code_begins from (Leg a b) = from + length (line_text (Leg a b))
code_begins from End = from + length (line_text End)

-- the code of a line, if it has one, has four signs
abbrev pub FourSigns : Line → Type 0
FourSigns (Bay kind n) = Unit {0}
FourSigns (Format k code) = length code ≡ 4
FourSigns (Card a b cost) = Unit {0}
FourSigns (Leg a b) = Unit {0}
FourSigns End = Unit {0}

-- From `from` on, the text is the line and then what stands at its end and after.
pub record IsRead (stage : Stage) (text : List ℕ) (from : ℕ) (read : Read) : Type 0 where
  pub allowed : Allowed stage read.line
  pub whole : drop from text ≡ line_text read.line ++ drop read.end text
  pub ends : read.end ≡ from + length (line_text read.line)
  pub number : read.number_place ≡ number_begins from read.line
  pub code : read.code_place ≡ code_begins from read.line

-- Up to the place the text is no whole line and may become one; with the byte there it may not.
-- Where every byte fits, the place is the length of the text.
pub record IsRefused (stage : Stage) (text : List ℕ) (from place : ℕ) : Type 0 where
  pub before : Unfinished stage (part text from place)
  pub here : (place ≡ length text) ⊎ ((from ≤ place) × (place < length text) × (Fits stage (part text from (place + 1)) → ⊥))

abbrev pub ReadLine : Stage → List ℕ → ℕ → Result Read Unfit → Type 0
ReadLine stage text from (Ok read) = IsRead stage text from read
ReadLine stage text from (Err unfit) = IsRefused stage text from unfit.byte

-- no other answer does
abbrev pub Alone : Stage → List ℕ → ℕ → Result Read Unfit → Type 0
Alone stage text from r = (s : Result Read Unfit) → ReadLine stage text from s → s ≡ r
