-- How long parts of an answer's text are.
use Rattle.std.proofs.Common.{ℕ, ◌+◌, ◌*◌, ◌/◌, ◌%◌, ◌==◌, ◌≤◌, List, [], ◌∷◌, ◌++◌, length, codes, decimal, cond, true, false, Bool, ℤ, arith, length-append}
use Rattle.std.specs.Fmt.{signed_decimal}
use Rattle.lines.specs.Grammar.{amount_text, both_text, delay_text, lines_text}
use Rattle.lines.specs.declared.line.Amount.{Amount}
use Rattle.bay.specs.declared.legs.Ends.{Ends}
use Rattle.bay.specs.Sheet.{most_in_row}
use Rattle.registers.specs.Text.{layer_text}
use Rattle.registers.specs.declared.fault.Code.{Code}
use Rattle.listing.specs.Lengths.{most_amount, most_digits, most_found, most_line, most_loop, most_refusal}
use Rattle.listing.specs.Output.{Writes}
use Rattle.listing.specs.Text.{code_line, found_text, fourccs_text, leg_text, loop_text, pieces}
use Rattle.listing.specs.declared.output.Output.{Output}

-- a text was written, and is no longer than that
pub record WritesUpTo (o o' : Output) (text : List ℕ) (most : ℕ) : Type 0 where
  pub written : Writes o o' text
  pub short : length text ≤ most

pub two_long : (a b : List ℕ) (m n : ℕ) → length a ≤ m → length b ≤ n → length (a ++ b) ≤ m + n
two_long a b m n h k = omega (arith, length-append a b)

pub both_short : (z w : ℤ) → length (delay_text z) ≤ most_digits + 3 → length (signed_decimal w) ≤ most_digits → length (both_text z w) ≤ most_amount
both_short z w h k = simp length-append (omega arith)

found_long : (a t : List ℕ) (m n : ℕ) → length a ≤ m → length t ≤ n → length (pieces (a ∷ codes " (" ∷ t ∷ codes ")" ∷ [])) ≤ m + n + 3
found_long a t m n h k = simp length-append (omega arith)

pub found_short : (fourccs : List (List ℕ)) (cost : Amount) (formats : List ℕ) → length (amount_text cost) ≤ most_amount → length (fourccs_text fourccs formats) ≤ 5 * length formats → length formats ≤ most_in_row →
    length (found_text fourccs cost formats) ≤ most_found
found_short fourccs cost [] a b c = omega arith
found_short fourccs cost (f ∷ fs) a b c =
    omega (arith, found_long (amount_text cost) (fourccs_text fourccs (f ∷ fs)) most_amount (5 * length (f ∷ fs)) a b, c)

pub leg_short : (fourccs : List (List ℕ)) (k : ℕ) (ends : Ends) (cost : Amount) (formats : List ℕ) → length (decimal k) ≤ most_digits → length (decimal ends.from) ≤ most_digits → length (decimal ends.to) ≤ most_digits →
    length (found_text fourccs cost formats) ≤ most_found → length (leg_text fourccs k ends cost formats) ≤ most_line
leg_short fourccs k ends cost formats a b c d = simp length-append (omega arith)

pub line_short : (c : Code) (byte : ℕ) → length (layer_text c.layer) ≤ 8 → length (decimal c.number) ≤ most_digits → length (decimal c.part) ≤ most_digits → length (decimal byte) ≤ most_digits → length (code_line c byte) ≤ most_refusal
line_short c byte h i j k = simp length-append (omega arith)

pub loop_short : (fourccs : List (List ℕ)) (formats : List ℕ) → length (fourccs_text fourccs formats) ≤ 5 * length formats → length formats ≤ most_in_row → length (loop_text fourccs formats) ≤ most_loop
loop_short fourccs formats h k = simp length-append (omega arith)

half_short : (b : Bool) → length (cond b (codes ".5") []) ≤ 2
half_short true = omega arith
half_short false = omega arith

pub lines_short : (h : ℕ) → length (decimal (h / 2)) ≤ most_digits → length (lines_text h) ≤ most_digits + 2
lines_short h k = two_long (decimal (h / 2)) (cond (h % 2 == 1) (codes ".5") []) most_digits 2 k (half_short (h % 2 == 1))
