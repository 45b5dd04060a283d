-- The rests of a stage are the texts of its allowed lines: each such text is read as its line,
-- and what was read as a line is its text.
use Rattle.std.proofs.Common.{◌≡◌, ℕ, zero, suc, ◌+◌, ◌*◌, ◌/◌, ◌%◌, ◌<◌, ◌≤◌, Bool, true, false, cond, ◌&&◌, eqb, List, [], ◌∷◌, ◌++◌, length, get_or, ℤ, pos, negsuc, nat_abs, codes, decimal, sym, refl, ap, ◌∙◌, subst, inl, inr, append_assoc, arith}
use Rattle.std.specs.Fmt.{signed_decimal}
use Rattle.std.proofs.lemmas.Fmt.{decimal_is_IsNumeral}
use Rattle.std.proofs.lemmas.Str.Parse.{digit_at}
use Rattle.std.proofs.lemmas.List.{get_or_append_left, length-append}
use Rattle.std.proofs.lemmas.Bool.{eq-eqb, ne_eqb, eqb-true, eqb-false, cond-true, cond-false, cases_Bool, false≢true}
use Rattle.lines.specs.Signs.{digit, line_end}
use Rattle.lines.specs.Grammar.{line_text, kind_text, delay_text, amount_text, too_large, AmountOf, Allowed}
use Rattle.lines.specs.Rests.{Rest, dead, over, on, number, fixed, ending, closing, size_rest, code_rest, number_rest, signed, lines_end, lines_rest, bits_end, bits_rest, delay_end, depth_end, both_end, second_part, cost_rest, pair_end, to_rest, from_rest, de_choice, kind_choice, word_rest, first_rest, line_rest}
use Rattle.lines.specs.declared.line.Amount.{Amount}
use Rattle.lines.specs.declared.line.Amount.TheVariants.{HalfLines, Bits}
use Rattle.lines.specs.declared.line.Amount.TheVariants as amount
use Rattle.lines.specs.declared.line.Kind.{Kind}
use Rattle.lines.specs.declared.line.Kind.TheVariants.{Delay, Depth, Both}
use Rattle.lines.specs.declared.line.Line.{Line}
use Rattle.lines.specs.declared.line.Line.TheVariants.{Bay, Format, Card, Leg, End}
use Rattle.lines.specs.declared.line.Stage.{Stage}
use Rattle.lines.specs.declared.line.Stage.TheVariants.{Start, Formats, Cards, Legs}
use Rattle.lines.specs.declared.words.Word.TheVariants as word
use Rattle.lines.proofs.Runs.{run, run_past, run_signs, on_went, fixed_began, signs_began, over_line, not_dead}
use Rattle.lines.proofs.Numbers.{run_number, run_stopped, number_began, stopped_began}

-- a byte that is not the first one leaves the other way
past : (b : ℕ) (r s : Rest) (bs : List ℕ) → 0 < length bs → (get_or bs 0 0 ≡ b → ⊥) → run (on b r s) bs ≡ run s bs
past b r s [] some apart = absurd (omega arith)
past b r s (c ∷ bs) some apart = run_past b r s c bs apart

-- digits are no minus
unsigned : (n : ℕ) (r s : Rest) (bs : List ℕ) → n < too_large → run (on 45 r s) (decimal n ++ bs) ≡ run s (decimal n ++ bs)
unsigned n r s bs small =
    let d = (decimal_is_IsNumeral n (omega arith)).0 in
    let e = get_or_append_left (decimal n) bs 0 0 d.0 in
    let f = digit_at (decimal n) 0 d.1 d.0 in
    past 45 r s (decimal n ++ bs) (omega (arith, d.0, length-append (decimal n) bs)) (λ q. omega (arith, e, f, q))

-- what follows the whole lines of so many half lines
abbrev half_text : ℕ → List ℕ
half_text h = cond (eqb (h % 2) 1) (codes ".5") []

whole_run : (next : ℤ → Rest) (minus : Bool) (n stop : ℕ) (bs : List ℕ) → (stop ≡ 46 → ⊥) → (minus && eqb n 0) ≡ false → run (lines_end next minus n) (stop ∷ bs) ≡ run (next (signed minus (2 * n))) (stop ∷ bs)
whole_run next minus n stop bs apart e =
    run_past 46 _ (cond (minus && eqb n 0) dead (next (signed minus (2 * n)))) stop bs apart
    ∙ ap (λ r. run r (stop ∷ bs)) (cond-false (minus && eqb n 0) dead (next (signed minus (2 * n))) e)

-- no minus stands before 0
signed_some : (minus : Bool) (n : ℕ) → (minus ≡ true → 0 < n) → (minus && eqb n 0) ≡ false
signed_some true n some = ne_eqb n 0 (λ e. omega (arith, e, some refl))
signed_some false n some = refl

-- the whole lines and what follows them are read as so many half lines
run_lines : (next : ℤ → Rest) (minus : Bool) (h stop : ℕ) (bs : List ℕ) → digit stop ≡ false → (stop ≡ 46 → ⊥) → h / 2 < too_large → (minus ≡ true → 0 < h) →
    run (number 0 (lines_end next minus)) (decimal (h / 2) ++ (half_text h ++ (stop ∷ bs))) ≡ run (next (signed minus h)) (stop ∷ bs)
run_lines next minus h stop bs other apart small some = elim (cases_Bool (eqb (h % 2) 1)) [
  | inl t ↦ (
      let odd : 2 * (h / 2) + 1 ≡ h = omega (arith, eqb-true (h % 2) 1 t) in
      ap (λ x. run (number 0 (lines_end next minus)) (decimal (h / 2) ++ (x ++ (stop ∷ bs)))) (cond-true (eqb (h % 2) 1) (codes ".5") [] t)
      ∙ run_number 0 (h / 2) 46 (lines_end next minus) (53 ∷ stop ∷ bs) (omega arith) refl (omega arith) small
      ∙ ap (λ x. run (next (signed minus x)) (stop ∷ bs)) odd)
  | inr f ↦ (
      let rem : h % 2 ≡ 0 = omega (arith, eqb-false (h % 2) 1 f) in
      let even : 2 * (h / 2) ≡ h = omega (arith, rem) in
      ap (λ x. run (number 0 (lines_end next minus)) (decimal (h / 2) ++ (x ++ (stop ∷ bs)))) (cond-false (eqb (h % 2) 1) (codes ".5") [] f)
      ∙ run_number 0 (h / 2) stop (lines_end next minus) bs (omega arith) other (omega arith) small
      ∙ whole_run next minus (h / 2) stop bs apart (signed_some minus (h / 2) (λ m. omega (arith, some m, rem)))
      ∙ ap (λ x. run (next (signed minus x)) (stop ∷ bs)) even)
]

run_delay : (next : ℤ → Rest) (z : ℤ) (stop : ℕ) (bs : List ℕ) → digit stop ≡ false → (stop ≡ 46 → ⊥) → nat_abs z / 2 < too_large → run (lines_rest next) (delay_text z ++ (stop ∷ bs)) ≡ run (next z) (stop ∷ bs)
run_delay next (pos h) stop bs other apart small =
    ap (run (lines_rest next)) (append_assoc (decimal (h / 2)) (half_text h) (stop ∷ bs))
    ∙ unsigned (h / 2) (number 0 (lines_end next true)) (number 0 (lines_end next false)) (half_text h ++ (stop ∷ bs)) small
    ∙ run_lines next false h stop bs other apart small (λ e. absurd (false≢true e))
run_delay next (negsuc h) stop bs other apart small =
    ap (run (number 0 (lines_end next true))) (append_assoc (decimal (suc h / 2)) (half_text (suc h)) (stop ∷ bs))
    ∙ run_lines next true (suc h) stop bs other apart small (λ e. omega arith)

run_depth : (next : ℤ → Rest) (z : ℤ) (stop : ℕ) (bs : List ℕ) → digit stop ≡ false → nat_abs z < too_large → run (bits_rest next) (signed_decimal z ++ (stop ∷ bs)) ≡ run (next z) (stop ∷ bs)
run_depth next (pos n) stop bs other small =
    unsigned n (number 1 (bits_end next true)) (number 0 (bits_end next false)) (stop ∷ bs) small
    ∙ run_number 0 n stop (bits_end next false) bs (omega arith) other (omega arith) small
run_depth next (negsuc n) stop bs other small = run_number 1 (suc n) stop (bits_end next true) bs (omega arith) other (omega arith) small

-- one part after the other
run_both : (a b : ℕ) (z w : ℤ) (bs : List ℕ) → nat_abs z / 2 < too_large → nat_abs w < too_large → run (cost_rest (Cards Both) a b) (amount_text (amount.Both z w) ++ (41 ∷ bs)) ≡ run (ending (Card a b (amount.Both z w))) bs
run_both a b z w bs small few =
    ap (run (lines_rest (second_part a b))) (append_assoc (delay_text z) (32 ∷ (signed_decimal w ++ (41 ∷ []))) (41 ∷ bs))
    ∙ run_delay (second_part a b) z 32 ((signed_decimal w ++ (41 ∷ [])) ++ (41 ∷ bs)) refl (λ e. omega (arith, e)) small
    ∙ ap (run (bits_rest (both_end a b z))) (append_assoc (signed_decimal w) (41 ∷ []) (41 ∷ bs))
    ∙ run_depth (both_end a b z) w 41 (41 ∷ bs) refl few

run_cost : (kind : Kind) (a b : ℕ) (cost : Amount) (bs : List ℕ) → AmountOf kind cost → run (cost_rest (Cards kind) a b) (amount_text cost ++ (41 ∷ bs)) ≡ run (ending (Card a b cost)) bs
run_cost Delay a b (HalfLines z) bs h = run_delay (delay_end a b) z 41 bs refl (λ e. omega (arith, e)) h
run_cost Delay a b (Bits z) bs h = absurd h
run_cost Delay a b (amount.Both z w) bs h = absurd h
run_cost Depth a b (HalfLines z) bs h = absurd h
run_cost Depth a b (Bits z) bs h = run_depth (depth_end a b) z 41 bs refl h
run_cost Depth a b (amount.Both z w) bs h = absurd h
run_cost Both a b (HalfLines z) bs h = absurd h
run_cost Both a b (Bits z) bs h = absurd h
run_cost Both a b (amount.Both z w) bs h = run_both a b z w bs h.0 h.1

-- The text of an allowed line is read as that line.
pub complete : (stage : Stage) (l : Line) → Allowed stage l → run (line_rest stage) (line_text l) ≡ over l
complete Start (Bay Delay n) h = run_stopped 0 41 n (λ k. ending (Bay Delay k)) (line_end ∷ []) (omega arith) refl (omega arith) h
complete Start (Bay Depth n) h = run_stopped 0 41 n (λ k. ending (Bay Depth k)) (line_end ∷ []) (omega arith) refl (omega arith) h
complete Start (Bay Both n) h = run_stopped 0 41 n (λ k. ending (Bay Both k)) (line_end ∷ []) (omega arith) refl (omega arith) h
complete Start (Format k code) h = absurd h
complete Start (Card a b cost) h = absurd h
complete Start (Leg a b) h = absurd h
complete Start End h = absurd h
complete Formats (Bay kind n) h = absurd h
complete Formats (Format k code) h =
    run_stopped 0 32 k (λ m. code_rest m 0 []) (code ++ (41 ∷ line_end ∷ [])) (omega arith) refl (omega arith) h.0
    ∙ run_signs 4 (λ cs. closing (Format k cs)) code (41 ∷ line_end ∷ []) h.1.0 h.1.1
complete Formats (Card a b cost) h = absurd h
complete Formats (Leg a b) h = absurd h
complete Formats End h = absurd h
complete (Cards kind) (Bay other n) h = absurd h
complete (Cards kind) (Format k code) h = absurd h
complete (Cards kind) (Card a b cost) h =
    run_stopped 0 32 a (to_rest (Cards kind) word.Card) (decimal b ++ (41 ∷ 32 ∷ (amount_text cost ++ (41 ∷ line_end ∷ [])))) (omega arith) refl (omega arith) h.0
    ∙ run_stopped 0 41 b (pair_end (Cards kind) word.Card a) (32 ∷ (amount_text cost ++ (41 ∷ line_end ∷ []))) (omega arith) refl (omega arith) h.1
    ∙ run_cost kind a b cost (line_end ∷ []) h.2
complete (Cards kind) (Leg a b) h =
    run_stopped 0 32 a (to_rest (Cards kind) word.Leg) (decimal b ++ (41 ∷ 41 ∷ line_end ∷ [])) (omega arith) refl (omega arith) h.0
    ∙ run_stopped 0 41 b (pair_end (Cards kind) word.Leg a) (41 ∷ line_end ∷ []) (omega arith) refl (omega arith) h.1
complete (Cards kind) End h = refl
complete Legs (Bay kind n) h = absurd h
complete Legs (Format k code) h = absurd h
complete Legs (Card a b cost) h = absurd h
complete Legs (Leg a b) h =
    run_stopped 0 32 a (to_rest Legs word.Leg) (decimal b ++ (41 ∷ 41 ∷ line_end ∷ [])) (omega arith) refl (omega arith) h.0
    ∙ run_stopped 0 41 b (pair_end Legs word.Leg a) (41 ∷ line_end ∷ []) (omega arith) refl (omega arith) h.1
complete Legs End h = refl

-- How a line ended.
ended : (k : Line) (bs : List ℕ) (l : Line) → run (ending k) bs ≡ over l → (bs ≡ line_end ∷ []) × (k ≡ l)
ended k bs l e =
    let g = fixed_began (line_end ∷ []) (over k) bs l e in
    let h = over_line k g.rest l g.runs in
    (g.whole ∙ ap (λ x. line_end ∷ x) h.0, h.1)

closed : (k : Line) (bs : List ℕ) (l : Line) → run (closing k) bs ≡ over l → (bs ≡ 41 ∷ line_end ∷ []) × (k ≡ l)
closed k bs l e =
    let g = fixed_began (41 ∷ line_end ∷ []) (over k) bs l e in
    let h = over_line k g.rest l g.runs in
    (g.whole ∙ ap (λ x. 41 ∷ line_end ∷ x) h.0, h.1)

-- the line, and its text
abbrev pub Is : Stage → Line → List ℕ → Type 0
Is stage l bs = Allowed stage l × (line_text l ≡ bs)

named : (stage : Stage) (k l : Line) (bs : List ℕ) → k ≡ l → Allowed stage k → bs ≡ line_text k → Is stage l bs
named stage k l bs e a t = (subst (Allowed stage) e a, sym (t ∙ ap line_text e))

-- the bay line of a kind, whose word and the space after it are what stands after the front
sized : (kind : Kind) (front word bs : List ℕ) (l : Line) → front ++ word ≡ codes "(bay " ++ (kind_text kind ++ codes " ") → (tail : List ℕ) → bs ≡ front ++ tail → run (fixed word (size_rest kind)) tail ≡ over l → Is Start l bs
sized kind front word bs l e tail w r =
    let t = fixed_began word (size_rest kind) tail l r in
    let m = stopped_began 0 41 (λ n. ending (Bay kind n)) t.rest l t.runs in
    let q = ended (Bay kind m.value) m.rest l m.runs in
    let after : List ℕ = decimal m.value ++ (41 ∷ line_end ∷ []) in
    named Start (Bay kind m.value) l bs q.1 m.small
    (w ∙ ap (λ x. front ++ x) (t.whole ∙ ap (λ x. word ++ x) (m.whole ∙ ap (λ x. decimal m.value ++ (41 ∷ x)) q.0))
    ∙ sym (append_assoc front word after)
    ∙ ap (λ x. x ++ after) e
    ∙ ap (λ x. codes "(bay " ++ x) (append_assoc (kind_text kind) (codes " ") after))

bay_line : (bs : List ℕ) (l : Line) → run (line_rest Start) bs ≡ over l → Is Start l bs
bay_line bs l e =
    let g = fixed_began (codes "(bay ") kind_choice bs l e in
    elim (on_went 98 (fixed (codes "oth ") (size_rest Both)) (fixed (codes "de") de_choice) g.rest l g.runs) [
      | inl w ↦ sized Both (codes "(bay b") (codes "oth ") bs l refl w.rest (g.whole ∙ ap (λ x. codes "(bay " ++ x) w.whole) w.runs
      | inr d ↦ (
          let t = fixed_began (codes "de") de_choice g.rest l d in
          let front : bs ≡ codes "(bay de" ++ t.rest = g.whole ∙ ap (λ x. codes "(bay " ++ x) t.whole in
          elim (on_went 108 (fixed (codes "ay ") (size_rest Delay)) (on 112 (fixed (codes "th ") (size_rest Depth)) dead) t.rest l t.runs) [
            | inl w ↦ sized Delay (codes "(bay del") (codes "ay ") bs l refl w.rest (front ∙ ap (λ x. codes "(bay de" ++ x) w.whole) w.runs
            | inr f ↦ elim (on_went 112 (fixed (codes "th ") (size_rest Depth)) dead t.rest l f) [
              | inl w ↦ sized Depth (codes "(bay dep") (codes "th ") bs l refl w.rest (front ∙ ap (λ x. codes "(bay de" ++ x) w.whole) w.runs
              | inr z ↦ absurd (not_dead t.rest l z)
            ]
          ])
    ]

format_line : (bs : List ℕ) (l : Line) → run (line_rest Formats) bs ≡ over l → Is Formats l bs
format_line bs l e =
    let g = fixed_began (codes "(format ") number_rest bs l e in
    let m = stopped_began 0 32 (λ k. code_rest k 0 []) g.rest l g.runs in
    let s = signs_began 4 (λ cs. closing (Format m.value cs)) m.rest l m.runs in
    let q = closed (Format m.value s.signs) s.rest l s.runs in
    named Formats (Format m.value s.signs) l bs q.1 (m.small, (s.count, s.all))
    (g.whole ∙ ap (λ x. codes "(format " ++ x) (m.whole ∙ ap (λ x. decimal m.value ++ (32 ∷ x)) (s.whole ∙ ap (λ x. s.signs ++ x) q.0)))

-- so many half lines, by their text, and what is left
record HalvesRead (next : ℤ → Rest) (minus : Bool) (bs : List ℕ) (l : Line) : Type 0 where
  halves : ℕ
  rest : List ℕ
  small : halves / 2 < too_large
  some : minus ≡ true → 0 < halves
  whole : bs ≡ decimal (halves / 2) ++ (half_text halves ++ rest)
  runs : run (next (signed minus halves)) rest ≡ over l

lines_began : (next : ℤ → Rest) (minus : Bool) (bs : List ℕ) (l : Line) → run (number 0 (lines_end next minus)) bs ≡ over l → HalvesRead next minus bs l
lines_began next minus bs l e =
    let k = number_began 0 (lines_end next minus) bs l e in
    go k.value k.rest k.small k.whole k.runs
  where
    -- half a line more
    odd : (n : ℕ) (rest : List ℕ) → n < too_large → bs ≡ decimal n ++ (46 ∷ rest) → run (fixed (codes "5") (next (signed minus (2 * n + 1)))) rest ≡ over l → HalvesRead next minus bs l
    odd n rest small w r =
        let g = fixed_began (codes "5") (next (signed minus (2 * n + 1))) rest l r in
        let half : (2 * n + 1) / 2 ≡ n = omega arith in
        let rem : (2 * n + 1) % 2 ≡ 1 = omega arith in
        record {
          halves = 2 * n + 1;
          rest = g.rest;
          small = omega (arith, half, small);
          some = λ m. omega arith;
          whole =
              w ∙ ap (λ x. decimal n ++ (46 ∷ x)) g.whole
              ∙ sym (ap (λ x. decimal x ++ (half_text (2 * n + 1) ++ g.rest)) half
              ∙ ap (λ x. decimal n ++ (x ++ g.rest)) (cond-true (eqb ((2 * n + 1) % 2) 1) (codes ".5") [] (eq-eqb _ _ rem)));
          runs = g.runs;
        }

    even : (n : ℕ) (rest : List ℕ) → n < too_large → (minus && eqb n 0) ≡ false → bs ≡ decimal n ++ rest → run (next (signed minus (2 * n))) rest ≡ over l → HalvesRead next minus bs l
    even n rest small some w r =
        let half : (2 * n) / 2 ≡ n = omega arith in
        let rem : (2 * n) % 2 ≡ 0 = omega arith in
        record {
          halves = 2 * n;
          rest = rest;
          small = omega (arith, half, small);
          some = λ m. let z = eqb-false n 0 (sym (ap (λ t. t && eqb n 0) m) ∙ some) in omega (arith, z);
          whole =
              w
              ∙ sym (ap (λ x. decimal x ++ (half_text (2 * n) ++ rest)) half
              ∙ ap (λ x. decimal n ++ (x ++ rest)) (cond-false (eqb ((2 * n) % 2) 1) (codes ".5") [] (ne_eqb _ _ (λ o. omega (arith, rem, o)))));
          runs = r;
        }

    go : (n : ℕ) (rest : List ℕ) → n < too_large → bs ≡ decimal n ++ rest → run (lines_end next minus n) rest ≡ over l → HalvesRead next minus bs l
    go n rest small w r = elim (on_went 46 (fixed (codes "5") (next (signed minus (2 * n + 1)))) (cond (minus && eqb n 0) dead (next (signed minus (2 * n)))) rest l r) [
      | inl g ↦ odd n g.rest small (w ∙ ap (λ x. decimal n ++ x) g.whole) g.runs
      | inr d ↦ elim (cases_Bool (minus && eqb n 0)) [
        | inl t ↦ absurd (not_dead rest l (sym (ap (λ x. run x rest) (cond-true (minus && eqb n 0) dead (next (signed minus (2 * n))) t)) ∙ d))
        | inr f ↦ even n rest small f w (sym (ap (λ x. run x rest) (cond-false (minus && eqb n 0) dead (next (signed minus (2 * n))) f)) ∙ d)
      ]
    ]

-- a number with a sign, by its text, and what is left
record SignedRead (text : ℤ → List ℕ) (fits : ℤ → Type 0) (next : ℤ → Rest) (bs : List ℕ) (l : Line) : Type 0 where
  value : ℤ
  rest : List ℕ
  fit : fits value
  whole : bs ≡ text value ++ rest
  runs : run (next value) rest ≡ over l

-- so many whole lines, and so many bits
abbrev few_lines : ℤ → Type 0
few_lines z = nat_abs z / 2 < too_large

abbrev few_bits : ℤ → Type 0
few_bits z = nat_abs z < too_large

delay_began : (next : ℤ → Rest) (bs : List ℕ) (l : Line) → run (lines_rest next) bs ≡ over l → SignedRead delay_text few_lines next bs l
delay_began next bs l e = elim (on_went 45 (number 0 (lines_end next true)) (number 0 (lines_end next false)) bs l e) [
  | inl w ↦ (
      let m = lines_began next true w.rest l w.runs in
      minus w.rest w.whole m.halves m.rest m.small (m.some refl) m.whole m.runs)
  | inr p ↦ (
      let m = lines_began next false bs l p in
      record { value = pos m.halves; rest = m.rest; fit = m.small; whole = m.whole ∙ sym (append_assoc (decimal (m.halves / 2)) (half_text m.halves) m.rest); runs = m.runs })
]
  where
    minus : (rest : List ℕ) → bs ≡ 45 ∷ rest → (h : ℕ) (tail : List ℕ) → h / 2 < too_large → 0 < h → rest ≡ decimal (h / 2) ++ (half_text h ++ tail) → run (next (signed true h)) tail ≡ over l → SignedRead delay_text few_lines next bs l
    minus rest w zero tail small some h e = absurd (omega arith)
    minus rest w (suc n) tail small some h e = record {
      value = negsuc n;
      rest = tail;
      fit = small;
      whole = w ∙ ap (λ x. 45 ∷ x) (h ∙ sym (append_assoc (decimal (suc n / 2)) (half_text (suc n)) tail));
      runs = e;
    }

depth_began : (next : ℤ → Rest) (bs : List ℕ) (l : Line) → run (bits_rest next) bs ≡ over l → SignedRead signed_decimal few_bits next bs l
depth_began next bs l e = elim (on_went 45 (number 1 (bits_end next true)) (number 0 (bits_end next false)) bs l e) [
  | inl w ↦ (
      let m = number_began 1 (bits_end next true) w.rest l w.runs in
      minus w.rest w.whole m.value m.rest m.above m.small m.whole m.runs)
  | inr p ↦ (
      let m = number_began 0 (bits_end next false) bs l p in
      record { value = pos m.value; rest = m.rest; fit = m.small; whole = m.whole; runs = m.runs })
]
  where
    minus : (rest : List ℕ) → bs ≡ 45 ∷ rest → (n : ℕ) (tail : List ℕ) → 1 ≤ n → n < too_large → rest ≡ decimal n ++ tail → run (next (signed true n)) tail ≡ over l → SignedRead signed_decimal few_bits next bs l
    minus rest w zero tail above small h r = absurd (omega arith)
    minus rest w (suc n) tail above small h r = record { value = negsuc n; rest = tail; fit = small; whole = w ∙ ap (λ x. 45 ∷ x) h; runs = r }

-- a cost
record Costs (kind : Kind) (a b : ℕ) (bs : List ℕ) (l : Line) : Type 0 where
  cost : Amount
  fits : AmountOf kind cost
  whole : bs ≡ amount_text cost ++ (41 ∷ line_end ∷ [])
  line : Card a b cost ≡ l

cost_began : (kind : Kind) (a b : ℕ) (bs : List ℕ) (l : Line) → run (cost_rest (Cards kind) a b) bs ≡ over l → Costs kind a b bs l
cost_began Delay a b bs l e =
    let m = delay_began (delay_end a b) bs l e in
    let q = closed (Card a b (HalfLines m.value)) m.rest l m.runs in
    record { cost = HalfLines m.value; fits = m.fit; whole = m.whole ∙ ap (λ x. delay_text m.value ++ x) q.0; line = q.1 }
cost_began Depth a b bs l e =
    let m = depth_began (depth_end a b) bs l e in
    let q = closed (Card a b (Bits m.value)) m.rest l m.runs in
    record { cost = Bits m.value; fits = m.fit; whole = m.whole ∙ ap (λ x. signed_decimal m.value ++ x) q.0; line = q.1 }
cost_began Both a b bs l e =
    let g = fixed_began (codes "(") (lines_rest (second_part a b)) bs l e in
    let m = delay_began (second_part a b) g.rest l g.runs in
    let s = fixed_began (codes " ") (bits_rest (both_end a b m.value)) m.rest l m.runs in
    let k = depth_began (both_end a b m.value) s.rest l s.runs in
    let t = fixed_began (codes ")") (closing (Card a b (amount.Both m.value k.value))) k.rest l k.runs in
    let q = closed (Card a b (amount.Both m.value k.value)) t.rest l t.runs in
    record {
      cost = amount.Both m.value k.value;
      fits = (m.fit, k.fit);
      whole =
          g.whole ∙ ap (λ x. 40 ∷ x) (m.whole ∙ ap (λ x. delay_text m.value ++ x) (s.whole ∙ ap (λ x. 32 ∷ x) (k.whole ∙ ap (λ x. signed_decimal k.value ++ x) (t.whole ∙ ap (λ x. 41 ∷ x) q.0))))
          ∙ sym (ap (λ x. 40 ∷ x) (append_assoc (delay_text m.value) (32 ∷ (signed_decimal k.value ++ (41 ∷ []))) (41 ∷ line_end ∷ [])
          ∙ ap (λ x. delay_text m.value ++ (32 ∷ x)) (append_assoc (signed_decimal k.value) (41 ∷ []) (41 ∷ line_end ∷ []))));
      line = q.1;
    }

card_line : (kind : Kind) (bs tail : List ℕ) (l : Line) → bs ≡ codes "(c" ++ tail → run (word_rest (Cards kind) word.Card 1) tail ≡ over l → Is (Cards kind) l bs
card_line kind bs tail l h e =
    let g = fixed_began (codes "ard (") (from_rest (Cards kind) word.Card) tail l e in
    let a = stopped_began 0 32 (to_rest (Cards kind) word.Card) g.rest l g.runs in
    let b = stopped_began 0 41 (pair_end (Cards kind) word.Card a.value) a.rest l a.runs in
    let s = fixed_began (codes " ") (cost_rest (Cards kind) a.value b.value) b.rest l b.runs in
    let m = cost_began kind a.value b.value s.rest l s.runs in
    named (Cards kind) (Card a.value b.value m.cost) l bs m.line (a.small, b.small, m.fits)
    (h ∙ ap (λ x. codes "(c" ++ x) (g.whole ∙ ap (λ x. codes "ard (" ++ x) (a.whole ∙ ap (λ x. decimal a.value ++ (32 ∷ x)) (
    b.whole ∙ ap (λ x. decimal b.value ++ (41 ∷ x)) (s.whole ∙ ap (λ x. codes " " ++ x) m.whole)))))

leg_line : (stage : Stage) → ((a b : ℕ) → a < too_large → b < too_large → Allowed stage (Leg a b)) → (bs tail : List ℕ) (l : Line) → bs ≡ codes "(l" ++ tail → run (word_rest Legs word.Leg 1) tail ≡ over l → Is stage l bs
leg_line stage allows bs tail l h e =
    let g = fixed_began (codes "eg (") (from_rest Legs word.Leg) tail l e in
    let a = stopped_began 0 32 (to_rest Legs word.Leg) g.rest l g.runs in
    let b = stopped_began 0 41 (pair_end Legs word.Leg a.value) a.rest l a.runs in
    let q = closed (Leg a.value b.value) b.rest l b.runs in
    named stage (Leg a.value b.value) l bs q.1 (allows a.value b.value a.small b.small)
    (h ∙ ap (λ x. codes "(l" ++ x) (g.whole ∙ ap (λ x. codes "eg (" ++ x) (a.whole ∙ ap (λ x. decimal a.value ++ (32 ∷ x)) (
    b.whole ∙ ap (λ x. decimal b.value ++ (41 ∷ x)) q.0))))

end_line : (stage : Stage) → Allowed stage End → (bs tail : List ℕ) (l : Line) → bs ≡ codes "(e" ++ tail → run (word_rest Legs word.End 1) tail ≡ over l → Is stage l bs
end_line stage allowed bs tail l h e =
    let g = fixed_began (codes "nd") (closing End) tail l e in
    let q = closed End g.rest l g.runs in
    named stage End l bs q.1 allowed (h ∙ ap (λ x. codes "(e" ++ x) (g.whole ∙ ap (λ x. codes "nd" ++ x) q.0))

-- a leg or the end
last_lines : (stage : Stage) → ((a b : ℕ) → a < too_large → b < too_large → Allowed stage (Leg a b)) → Allowed stage End → (bs tail : List ℕ) (l : Line) → bs ≡ codes "(" ++ tail → run (first_rest Legs) tail ≡ over l → Is stage l bs
last_lines stage legs end bs tail l h e = elim (on_went 108 (word_rest Legs word.Leg 1) (on 101 (word_rest Legs word.End 1) dead) tail l e) [
  | inl w ↦ leg_line stage legs bs w.rest l (h ∙ ap (λ x. 40 ∷ x) w.whole) w.runs
  | inr d ↦ elim (on_went 101 (word_rest Legs word.End 1) dead tail l d) [
    | inl w ↦ end_line stage end bs w.rest l (h ∙ ap (λ x. 40 ∷ x) w.whole) w.runs
    | inr z ↦ absurd (not_dead tail l z)
  ]
]

-- What was read as a line is the text of that line, and the line is allowed.
pub sound : (stage : Stage) (bs : List ℕ) (l : Line) → run (line_rest stage) bs ≡ over l → Is stage l bs
sound Start bs l e = bay_line bs l e
sound Formats bs l e = format_line bs l e
sound (Cards kind) bs l e =
    let g = fixed_began (codes "(") (first_rest (Cards kind)) bs l e in
    elim (on_went 99 (word_rest (Cards kind) word.Card 1) (first_rest Legs) g.rest l g.runs) [
      | inl w ↦ card_line kind bs w.rest l (g.whole ∙ ap (λ x. 40 ∷ x) w.whole) w.runs
      | inr d ↦ last_lines (Cards kind) (λ a b h k. (h, k)) tt bs g.rest l g.whole d
    ]
sound Legs bs l e =
    let g = fixed_began (codes "(") (first_rest Legs) bs l e in
    last_lines Legs (λ a b h k. (h, k)) tt bs g.rest l g.whole g.runs
