-- What a caller that reads line after line wants of an answer: each line takes the text further, and no farther than its end;
-- and there is one answer alone.
use Rattle.std.proofs.Common.{◌≡◌, ℕ, ◌+◌, ◌-◌, ◌<◌, ◌≤◌, List, [], ◌∷◌, ◌++◌, length, take, drop, Ok, Err, Result, sym, refl, ap, ◌∙◌, subst, inl, inr, append_assoc, append-nil, arith}
use Rattle.std.proofs.lemmas.List.{take-append-drop, take-append-le, take-take, take_at, length-drop, length-append}
use Rattle.std.proofs.lemmas.Bool.{cases_lt, cases_order}
use Rattle.lines.specs.Grammar.{line_text, Fits, Unfinished, part, number_begins, code_begins, IsRead, IsRefused, ReadLine}
use Rattle.lines.specs.Rests.{Rest, over, after_byte, line_rest}
use Rattle.lines.specs.declared.line.Line.{Line}
use Rattle.lines.specs.declared.line.Line.TheVariants.{Bay, Format, Card, Leg, End}
use Rattle.lines.specs.declared.line.Read.{Read}
use Rattle.lines.specs.declared.line.Unfit.{Unfit}
use Rattle.lines.specs.declared.line.Stage.{Stage}
use Rattle.lines.proofs.Runs.{run, not_dead}
use Rattle.lines.proofs.Lines.{complete}

-- a line has a byte at least
line_some : (l : Line) → 0 < length (line_text l)
line_some (Bay kind n) = omega arith
line_some (Format k code) = omega arith
line_some (Card a b cost) = omega arith
line_some (Leg a b) = omega arith
line_some End = omega arith

pub read_advances : {stage : Stage} {text : List ℕ} {from : ℕ} {a : Read} → IsRead stage text from a → from < a.end
read_advances {a = a} h = omega (arith, h.ends, line_some a.line)

pub read_within : {stage : Stage} {text : List ℕ} {from : ℕ} {a : Read} → IsRead stage text from a → a.end ≤ length text
read_within {text = text} {from = from} {a = a} h =
    let e = ap length h.whole ∙ length-append (line_text a.line) (drop a.end text) in
    omega (arith, e, h.ends, line_some a.line, length-drop from text)

pub refused_within : {stage : Stage} {text : List ℕ} {from place : ℕ} → IsRefused stage text from place → place ≤ length text
refused_within h = elim h.here [ inl e ↦ omega arith | inr k ↦ omega (arith, k.1) ]

-- what begins a line that fits
pub fits_shorter : (stage : Stage) (bytes more : List ℕ) → Fits stage (bytes ++ more) → Fits stage bytes
fits_shorter stage bytes more h = record { line = h.line; rest = more ++ h.rest; allowed = h.allowed; whole = h.whole ∙ append_assoc bytes more h.rest }

pub fits_unfinished : (stage : Stage) (bytes : List ℕ) → Unfinished stage bytes → Fits stage bytes
fits_unfinished stage bytes h = record { line = h.line; rest = h.byte ∷ h.rest; allowed = h.allowed; whole = h.whole }

part_of : (text : List ℕ) (from near far : ℕ) → near ≤ far → part text from far ≡ part text from near ++ drop (near - from) (part text from far)
part_of text from near far l =
    sym (take-append-drop (near - from) (part text from far))
    ∙ ap (λ bs. bs ++ drop (near - from) (part text from far)) (take-take (near - from) (far - from) (drop from text) (omega arith))

fits_part : (stage : Stage) (text : List ℕ) (from near far : ℕ) → near ≤ far → Fits stage (part text from far) → Fits stage (part text from near)
fits_part stage text from near far l h =
    fits_shorter stage (part text from near) (drop (near - from) (part text from far)) (subst (Fits stage) (part_of text from near far l) h)

-- No text begins with two lines.
one_line : (r : Rest) (p q ps qs : List ℕ) (k l : Line) → run r p ≡ over k → run r q ≡ over l → p ++ ps ≡ q ++ qs → (p ≡ q) × (k ≡ l)
one_line r [] [] ps qs k l e f h = (refl, cc)
one_line r [] (b ∷ q) ps qs k l e f h = absurd (not_dead q l (sym (ap (λ t. run (after_byte t b) q) e) ∙ f))
one_line r (b ∷ p) [] ps qs k l e f h = absurd (not_dead p k (sym (ap (λ t. run (after_byte t b) p) f) ∙ e))
one_line r (b ∷ p) (c ∷ q) ps qs k l e f h =
    let same : b ≡ c = cc in
    let g = one_line (after_byte r b) p q ps qs k l e (ap (λ t. run (after_byte r t) q) same ∙ f) (cc) in
    (cc g.0, g.1)

ok_is : (text : List ℕ) (from : ℕ) (stage : Stage) (a b : Read) → IsRead stage text from a → IsRead stage text from b → a ≡ b
ok_is text from stage a b g h =
    let s = one_line (line_rest stage) (line_text a.line) (line_text b.line) (drop a.end text) (drop b.end text) a.line b.line
    (complete stage a.line g.allowed) (complete stage b.line h.allowed) (sym g.whole ∙ h.whole) in
    let l : a.line ≡ b.line = s.1 in
    let e : a.end ≡ b.end = g.ends ∙ ap (λ x. from + length (line_text x)) l ∙ sym h.ends in
    let n : a.number_place ≡ b.number_place = g.number ∙ ap (number_begins from) l ∙ sym h.number in
    let c : a.code_place ≡ b.code_place = g.code ∙ ap (code_begins from) l ∙ sym h.code in
    λ i. record { line = l i; end = e i; number_place = n i; code_place = c i }

-- A text that begins with a line is refused nowhere.
ok_not_err : (text : List ℕ) (from : ℕ) (stage : Stage) (a : Read) (place : ℕ) → IsRead stage text from a → IsRefused stage text from place → ⊥
ok_not_err text from stage a place g h =
    let p : List ℕ = line_text a.line in
    let e : length text - from ≡ length p + length (drop a.end text) = sym (length-drop from text) ∙ ap length g.whole ∙ length-append p (drop a.end text) in
    elim (cases_lt (place - from) (length p)) [
      | inl l ↦ elim h.here [
        | inl z ↦ omega (arith, e, l, z)
        | inr k ↦ k.2 (record {
          line = a.line;
          rest = drop ((place + 1) - from) p;
          allowed = g.allowed;
          whole =
              sym (take-append-drop ((place + 1) - from) p)
              ∙ ap (λ bs. bs ++ drop ((place + 1) - from) p) (sym (ap (take ((place + 1) - from)) g.whole ∙ take-append-le ((place + 1) - from) p (drop a.end text) (omega (arith, l, k.0))));
        })
      ]
      | inr l ↦ (
          -- the line, and a byte at least after it
          let u = h.before in
          let more : List ℕ = drop (length p) (part text from place) in
          let split : part text from place ≡ p ++ more =
          sym (take-append-drop (length p) (part text from place))
          ∙ ap (λ bs. bs ++ more) (take-take (length p) (place - from) (drop from text) l ∙ ap (take (length p)) g.whole ∙ take_at p (drop a.end text) (length p) refl) in
          let s = one_line (line_rest stage) p (line_text u.line) (more ++ (u.byte ∷ u.rest)) [] a.line u.line
          (complete stage a.line g.allowed) (complete stage u.line u.allowed)
          (sym (append_assoc p more (u.byte ∷ u.rest)) ∙ ap (λ bs. bs ++ (u.byte ∷ u.rest)) (sym split) ∙ sym u.whole ∙ sym (append-nil (line_text u.line))) in
          let m = ap length (s.0 ∙ u.whole) ∙ length-append (part text from place) (u.byte ∷ u.rest) in
          omega (arith, m, ap length split ∙ length-append p more))
    ]

err_not_before : (text : List ℕ) (from : ℕ) (stage : Stage) (near far : ℕ) → near < far → IsRefused stage text from near → IsRefused stage text from far → ⊥
err_not_before text from stage near far l g h = elim g.here [
  | inl e ↦ omega (arith, e, l, refused_within h)
  | inr k ↦ k.2 (fits_part stage text from (near + 1) far (omega arith) (fits_unfinished stage (part text from far) h.before))
]

-- There is one answer alone.
pub one_answer : (stage : Stage) (text : List ℕ) (from : ℕ) (r s : Result Read Unfit) → ReadLine stage text from r → ReadLine stage text from s → r ≡ s
one_answer stage text from (Ok a) (Ok b) g h = ap Ok (ok_is text from stage a b g h)
one_answer stage text from (Ok a) (Err p) g h = absurd (ok_not_err text from stage a p.byte g h)
one_answer stage text from (Err p) (Ok b) g h = absurd (ok_not_err text from stage b p.byte h g)
one_answer stage text from (Err p) (Err q) g h = elim (cases_order p.byte q.byte) [
  | inl e ↦ ap (λ byte. Err (record { byte = byte })) e
  | inr d ↦ elim d [
    | inl l ↦ absurd (err_not_before text from stage p.byte q.byte l g h)
    | inr l ↦ absurd (err_not_before text from stage q.byte p.byte l h g)
  ]
]
