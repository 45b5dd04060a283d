-- What may come after several bytes, and how a line that was read to its end began.
-- Every rest that is not dead has a line that ends it.
use Rattle.std.proofs.Common.{◌≡◌, ℕ, zero, suc, ◌+◌, ◌-◌, ◌*◌, ◌≤◌, Bool, true, false, cond, ◌&&◌, ◌||◌, eqb, leb, ◌⊎◌, List, [], ◌∷◌, ◌++◌, length, sym, refl, ap, ◌∙◌, subst, inl, inr, arith}
use Rattle.std.specs.List.{AllByRecursion}
use Rattle.std.proofs.lemmas.Bool.{eq-eqb, ne_eqb, eqb-true, le-leb, cond-true, cond-false, cases_Bool, both_ways}
use Rattle.lines.specs.Signs.{digit, letter}
use Rattle.lines.specs.Rests.{Rest, dead, over, on, number, digits, sign, after_byte, grows, fixed, until, signs}
use Rattle.lines.specs.declared.line.Line.{Line}

abbrev pub run : Rest → List ℕ → Rest
run r [] = r
run r (b ∷ bs) = run (after_byte r b) bs

pub run_append : (r : Rest) (front bs : List ℕ) → run r (front ++ bs) ≡ run (run r front) bs
run_append r [] bs = refl
run_append r (b ∷ front) bs = run_append (after_byte r b) front bs

pub run_dead : (bs : List ℕ) → run dead bs ≡ dead
run_dead [] = refl
run_dead (b ∷ bs) = run_dead bs

abbrev pub IsOver : Rest → Type 0
IsOver dead = ⊥
IsOver (over l) = Unit {0}
IsOver (on b r s) = ⊥
IsOver (number low next) = ⊥
IsOver (digits n next) = ⊥
IsOver (sign next) = ⊥

pub not_dead : (bs : List ℕ) (l : Line) → run dead bs ≡ over l → ⊥
not_dead bs l e = subst IsOver (sym e ∙ run_dead bs) tt

pub over_line : (k : Line) (bs : List ℕ) (l : Line) → run (over k) bs ≡ over l → (bs ≡ []) × (k ≡ l)
over_line k [] l e = (refl, cc)
over_line k (b ∷ bs) l e = absurd (not_dead bs l e)

-- a byte that is another one
pub run_past : (b : ℕ) (r s : Rest) (c : ℕ) (bs : List ℕ) → (c ≡ b → ⊥) → run (on b r s) (c ∷ bs) ≡ run s (c ∷ bs)
run_past b r s c bs apart = ap (λ t. run t bs) (cond-false (eqb c b) r (after_byte s c) (ne_eqb c b apart))

-- which way a line went
pub record Went (b : ℕ) (r : Rest) (bs : List ℕ) (l : Line) : Type 0 where
  pub rest : List ℕ
  pub whole : bs ≡ b ∷ rest
  pub runs : run r rest ≡ over l

pub on_went : (b : ℕ) (r s : Rest) (bs : List ℕ) (l : Line) → run (on b r s) bs ≡ over l → Went b r bs l ⊎ (run s bs ≡ over l)
on_went b r s [] l e = absurd (subst IsOver (sym e) tt)
on_went b r s (c ∷ bs) l e = elim (cases_Bool (eqb c b)) [
  | inl t ↦ inl (record {
    rest = bs;
    whole = ap (λ x. x ∷ bs) (eqb-true c b t);
    runs = sym (ap (λ t. run t bs) (cond-true (eqb c b) r (after_byte s c) t)) ∙ e;
  })
  | inr f ↦ inr (sym (ap (λ t. run t bs) (cond-false (eqb c b) r (after_byte s c) f)) ∙ e)
]

-- a fixed text
pub record Began (w : List ℕ) (r : Rest) (bs : List ℕ) (l : Line) : Type 0 where
  pub rest : List ℕ
  pub whole : bs ≡ w ++ rest
  pub runs : run r rest ≡ over l

pub fixed_began : (w : List ℕ) (r : Rest) (bs : List ℕ) (l : Line) → run (fixed w r) bs ≡ over l → Began w r bs l
fixed_began [] r bs l e = record { rest = bs; whole = refl; runs = e }
fixed_began (b ∷ w) r bs l e = elim (on_went b (fixed w r) dead bs l e) [
  | inl g ↦ further g.rest g.whole (fixed_began w r g.rest l g.runs)
  | inr d ↦ absurd (not_dead bs l d)
]
  where
    further : (rest : List ℕ) → bs ≡ b ∷ rest → Began w r rest l → Began (b ∷ w) r bs l
    further rest q k = record { rest = k.rest; whole = q ∙ ap (λ x. b ∷ x) k.whole; runs = k.runs }

-- letters or digits
abbrev pub coded : ℕ → Type 0
coded c = (letter c || digit c) ≡ true

pub run_signs : (n : ℕ) (next : List ℕ → Rest) (cs bs : List ℕ) → length cs ≡ n → AllByRecursion coded cs → run (signs n next) (cs ++ bs) ≡ run (next cs) bs
run_signs zero next [] bs e h = refl
run_signs zero next (c ∷ cs) bs e h = absurd (omega arith)
run_signs (suc n) next [] bs e h = absurd (omega arith)
run_signs (suc n) next (c ∷ cs) bs e h =
    ap (λ t. run t (cs ++ bs)) (cond-true (letter c || digit c) (signs n (λ ds. next (c ∷ ds))) dead h.0)
    ∙ run_signs n (λ ds. next (c ∷ ds)) cs bs (omega arith) h.1

pub record Signed (n : ℕ) (next : List ℕ → Rest) (bs : List ℕ) (l : Line) : Type 0 where
  pub signs : List ℕ
  pub rest : List ℕ
  pub count : length signs ≡ n
  pub all : AllByRecursion coded signs
  pub whole : bs ≡ signs ++ rest
  pub runs : run (next signs) rest ≡ over l

pub signs_began : (n : ℕ) (next : List ℕ → Rest) (bs : List ℕ) (l : Line) → run (signs n next) bs ≡ over l → Signed n next bs l
signs_began zero next bs l e = record { signs = []; rest = bs; count = refl; all = tt; whole = refl; runs = e }
signs_began (suc n) next [] l e = absurd (subst IsOver (sym e) tt)
signs_began (suc n) next (c ∷ bs) l e = elim (cases_Bool (letter c || digit c)) [
  | inl t ↦ further t (signs_began n (λ ds. next (c ∷ ds)) bs l (sym (ap (λ r. run r bs) (cond-true (letter c || digit c) (signs n (λ ds. next (c ∷ ds))) dead t)) ∙ e))
  | inr f ↦ absurd (not_dead bs l (sym (ap (λ r. run r bs) (cond-false (letter c || digit c) (signs n (λ ds. next (c ∷ ds))) dead f)) ∙ e))
]
  where
    further : coded c → Signed n (λ ds. next (c ∷ ds)) bs l → Signed (suc n) next (c ∷ bs) l
    further t k = record {
      signs = c ∷ k.signs;
      rest = k.rest;
      count = ap suc k.count;
      all = (t, k.all);
      whole = ap (λ x. c ∷ x) k.whole;
      runs = k.runs;
    }

-- dead at most where a byte is refused
abbrev pub NotDead : Rest → Type 0
NotDead dead = ⊥
NotDead (over l) = Unit {0}
NotDead (on b r s) = Unit {0}
NotDead (number low next) = Unit {0}
NotDead (digits n next) = Unit {0}
NotDead (sign next) = Unit {0}

-- neither dead nor over
abbrev pub Waits : Rest → Type 0
Waits dead = ⊥
Waits (over l) = ⊥
Waits (on b r s) = Unit {0}
Waits (number low next) = Unit {0}
Waits (digits n next) = Unit {0}
Waits (sign next) = Unit {0}

-- no digit fits
abbrev pub Undigited : Rest → Type 0
Undigited r = (c : ℕ) → digit c ≡ true → after_byte r c ≡ dead

abbrev pub Fine : Rest → Type 0
Fine dead = Unit {0}
Fine (over l) = Unit {0}
Fine (on b r s) = Fine r × NotDead r × Fine s
Fine (number low next) = (low ≤ 1) × ((n : ℕ) → Fine (next n) × Waits (next n) × Undigited (next n))
Fine (digits n next) = (m : ℕ) → Fine (next m) × Waits (next m) × Undigited (next m)
Fine (sign next) = (c : ℕ) → Fine (next c) × NotDead (next c)

fine_cond : (b : Bool) (r s : Rest) → Fine r → Fine s → Fine (cond b r s)
fine_cond true r s h k = h
fine_cond false r s h k = k

pub fine_byte : (r : Rest) (c : ℕ) → Fine r → Fine (after_byte r c)
fine_byte dead c h = tt
fine_byte (over l) c h = tt
fine_byte (on b r s) c h = fine_cond (eqb c b) r (after_byte s c) h.0 (fine_byte s c h.2)
fine_byte (number low next) c h = fine_cond (digit c && leb low (c - 48)) (digits (c - 48) next) dead h.1 tt
fine_byte (digits n next) c h =
    let longer : Rest = digits (n * 10 + (c - 48)) next in
    fine_cond (digit c) (cond (grows n) longer dead) (after_byte (next n) c) (fine_cond (grows n) longer dead h tt) (fine_byte (next n) c (h n).0)
fine_byte (sign next) c h = fine_cond (letter c || digit c) (next c) dead (h c).0 tt

pub fine_run : (r : Rest) (bs : List ℕ) → Fine r → Fine (run r bs)
fine_run r [] h = h
fine_run r (b ∷ bs) h = fine_run (after_byte r b) bs (fine_byte r b h)

-- more bytes that end a line
pub record Ends (r : Rest) : Type 0 where
  pub line : Line
  pub rest : List ℕ
  pub runs : run r rest ≡ over line

step_back : (r s : Rest) (c : ℕ) → after_byte r c ≡ s → Ends s → Ends r
step_back r s c e k = record { line = k.line; rest = c ∷ k.rest; runs = ap (λ t. run t k.rest) e ∙ k.runs }

pub waits_not_dead : (r : Rest) → Waits r → NotDead r
waits_not_dead dead h = h
waits_not_dead (over l) h = tt
waits_not_dead (on b r s) h = tt
waits_not_dead (number low next) h = tt
waits_not_dead (digits n next) h = tt
waits_not_dead (sign next) h = tt

waits_not_over : (r : Rest) (l : Line) → Waits r → r ≡ over l → ⊥
waits_not_over r l w e = subst Waits e w

-- what follows a number ends it
number_ends : (n : ℕ) (next : ℕ → Rest) → Waits (next n) → Undigited (next n) → Ends (next n) → Ends (digits n next)
number_ends n next w u k = go k.line k.rest k.runs
  where
    go : (l : Line) (rest : List ℕ) → run (next n) rest ≡ over l → Ends (digits n next)
    go l [] e = absurd (waits_not_over (next n) l w e)
    go l (c ∷ rest) e = elim (cases_Bool (digit c)) [
      | inl t ↦ absurd (not_dead rest l (sym (ap (λ r. run r rest) (u c t)) ∙ e))
      | inr f ↦ record { line = l; rest = c ∷ rest; runs = ap (λ r. run r rest) (cond-false (digit c) _ (after_byte (next n) c) f) ∙ e }
    ]

pub ends : (r : Rest) → Fine r → NotDead r → Ends r
ends dead h n = absurd n
ends (over l) h n = record { line = l; rest = []; runs = refl }
ends (on b r s) h n = step_back (on b r s) r b (cond-true (eqb b b) r (after_byte s b) (eq-eqb b b refl)) (ends r h.0 h.1)
ends (number low next) h n =
    step_back _ (digits 1 next) 49 (cond-true _ (digits 1 next) dead (le-leb low 1 h.0))
    (number_ends 1 next (h.1 1).1 (h.1 1).2 (ends (next 1) (h.1 1).0 (waits_not_dead _ (h.1 1).1)))
ends (digits n next) h k = number_ends n next (h n).1 (h n).2 (ends (next n) (h n).0 (waits_not_dead _ (h n).1))
ends (sign next) h n = step_back (sign next) (next 97) 97 refl (ends (next 97) (h 97).0 (h 97).1)

pub waits_fixed : (w : List ℕ) (r : Rest) → Waits r → Waits (fixed w r)
waits_fixed [] r h = h
waits_fixed (b ∷ w) r h = tt

pub waits_signs : (n : ℕ) (next : List ℕ → Rest) → ((cs : List ℕ) → Waits (next cs)) → Waits (signs n next)
waits_signs zero next h = h []
waits_signs (suc n) next h = tt

-- fine and not dead
abbrev pub Live : Rest → Type 0
Live r = Fine r × NotDead r

pub live_fixed : (w : List ℕ) (r : Rest) → Live r → Live (fixed w r)
live_fixed [] r h = h
live_fixed (b ∷ w) r h = let k = live_fixed w r h in ((k.0, k.1, tt), tt)

pub live_signs : (n : ℕ) (next : List ℕ → Rest) → ((cs : List ℕ) → Live (next cs)) → Live (signs n next)
live_signs zero next h = h []
live_signs (suc n) next h = (λ c. live_signs n (λ cs. next (c ∷ cs)) (λ cs. h (c ∷ cs)), tt)

pub live_number : (low : ℕ) (next : ℕ → Rest) → low ≤ 1 → ((n : ℕ) → Fine (next n) × Waits (next n) × Undigited (next n)) → Live (number low next)
live_number low next one h = ((one, h), tt)

-- a byte that no digit is, and what follows it
pub live_until : (stop : ℕ) (next : ℕ → Rest) → digit stop ≡ false → ((n : ℕ) → Live (next n)) → (n : ℕ) → Fine (until stop next n) × Waits (until stop next n) × Undigited (until stop next n)
live_until stop next apart h n = (((h n).0, (h n).1, tt), tt, undigited)
  where
    undigited : Undigited (until stop next n)
    undigited c d = cond-false (eqb c stop) (next n) dead (ne_eqb c stop (λ e. both_ways (digit c) (ap digit e ∙ apart) d))

pub live_stopped : (low stop : ℕ) (next : ℕ → Rest) → low ≤ 1 → digit stop ≡ false → ((n : ℕ) → Live (next n)) → Live (number low (until stop next))
live_stopped low stop next one apart h = live_number low (until stop next) one (live_until stop next apart h)
