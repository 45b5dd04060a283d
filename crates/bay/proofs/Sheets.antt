-- Rows of a sheet: a chain is followed and written byte by byte, and a written row leaves all other bytes as they were.
use Rattle.std.proofs.Common.{◌≡◌, ℕ, ◌+◌, ◌-◌, ◌*◌, ◌<◌, ◌≤◌, min, ◌⊎◌, List, [], ◌∷◌, ◌++◌, length, get_or, take, drop, set, replicate, Option, sym, refl, ap, ◌∙◌, inl, inr, arith, take_all}
use borrow.Rule.Slice.PartMut.{put_mid, Post-is}
use Rattle.std.proofs.lemmas.List.{append_assoc, length-append, length-drop, length-replicate, length-take, length-take-le, drop_more, take_more, set_at, take_at, drop_at, get_or_append_left, get_or-append_right, get_or-take, get_or-drop, ext_get_or}
use Rattle.std.proofs.lemmas.Bool.{cases_lt}
use Rattle.costs.specs.Algebra.{Algebra, Lawful}
use Rattle.walks.specs.Walk.{path, FromTo, Below, Walk, Chain}
use Rattle.walks.specs.Theorems.{Sound}
use Rattle.registers.specs.Meaning.{most_formats}
use Rattle.bay.specs.Tracing.{Follows}
use Rattle.bay.specs.Sheet.{most_in_row, row_of, row_at, put_row, row_bytes}
use Rattle.bay.specs.Tracing.{Leads, LeadsIn}
use Rattle.bay.proofs.Follow.{follows_ends, follows_head, follows_same}
use Rattle.bay.proofs.Searches.{below_at}
use Rattle.walks.proofs.Runs.{one_or_path, to_runs}
use Rattle.walks.proofs.Fold.{below_join, below_mono}
use Rattle.walks.proofs.Loops.{runs_inside}
use Rattle.walks.proofs.Cut.{distinct_few}

-- the chain from `from` is followed as far as `here`, and its first i formats stand in the first of the places
pub record Reading (next : List ℕ) (goal from : ℕ) (old : List ℕ) (here i : ℕ) (places : List ℕ) : Type 0 where
  pub formats : List ℕ
  pub follows : Follows next goal from formats
  pub below : Below most_formats formats
  pub few : length formats ≤ length old
  pub inside : i < length formats
  pub left : Follows next goal here (drop i formats)
  pub written : places ≡ take i formats ++ drop i old

module _ (next : List ℕ) (goal : ℕ) where
  pub follows_some : (v : ℕ) (fs : List ℕ) → Follows next goal v fs → 0 < length fs
  follows_some v [] h = absurd h
  follows_some v (f ∷ fs) h = omega arith

  follows_on : (v x : ℕ) (fs : List ℕ) → Follows next goal v (x ∷ fs) → (v ≡ goal → ⊥) → Follows next goal (get_or next v 0) fs
  follows_on v x [] h ne = absurd (ne h.1)
  follows_on v x (f ∷ fs) h ne = h.2

  follows_last : (v x : ℕ) (fs : List ℕ) → Follows next goal v (x ∷ fs) → v ≡ goal → length fs ≡ 0
  follows_last v x [] h e = refl
  follows_last v x (f ∷ fs) h e = absurd (h.1 e)

  module _ (from : ℕ) (old : List ℕ) where
    pub reading_none : LeadsIn (length old) next goal from → Reading next goal from old from 0 old
    reading_none (fs, h, b, l) = record { formats = fs; follows = h; below = b; few = l; inside = follows_some from fs h; left = h; written = refl }

    module _ (here i : ℕ) (places : List ℕ) (r : Reading next goal from old here i places) where
      at_drop : Follows next goal here (get_or r.formats i 0 ∷ drop (i + 1) r.formats)
      at_drop = rw (drop_more r.formats i 0 r.inside) at r.left

      is_here : get_or r.formats i 0 ≡ here
      is_here = follows_head next goal here _ _ at_drop

      pub reading_inside : here < most_formats
      reading_inside = rw is_here at (below_at most_formats r.formats i r.inside r.below)

      pub reading_goes_on : i < length old
      reading_goes_on = omega (arith, r.few, r.inside)

      wrote : set places i here ≡ take (i + 1) r.formats ++ drop (i + 1) old
      wrote =
          let front : length (take i r.formats) ≡ i = length-take-le i r.formats (omega (arith, r.inside)) in
          ap (λ s. set s i here) (r.written ∙ ap (λ ds. take i r.formats ++ ds) (drop_more old i 0 reading_goes_on)) ∙
          set_at (take i r.formats) (get_or old i 0) (drop (i + 1) old) here i front ∙
          rw (take_more r.formats i 0 r.inside, is_here) (sym (append_assoc (take i r.formats) (here ∷ []) (drop (i + 1) old)))

      pub reading_more : (here ≡ goal → ⊥) → Reading next goal from old (get_or next here 0) (i + 1) (set places i here)
      reading_more ne =
          let on = follows_on here (get_or r.formats i 0) (drop (i + 1) r.formats) at_drop ne in
          record {
            formats = r.formats;
            follows = r.follows;
            below = r.below;
            few = r.few;
            inside = omega (arith, follows_some (get_or next here 0) (drop (i + 1) r.formats) on, length-drop (i + 1) r.formats);
            left = on;
            written = wrote;
          }

      pub reading_all : here ≡ goal → (fs : List ℕ) → Follows next goal from fs → (i + 1 ≡ length fs) × (set places i here ≡ fs ++ drop (length fs) old)
      reading_all e fs h =
          let same = follows_same next goal from r.formats fs r.follows h in
          let end : i + 1 ≡ length r.formats = omega (arith, follows_last here (get_or r.formats i 0) (drop (i + 1) r.formats) at_drop e, length-drop (i + 1) r.formats, r.inside) in
          (end ∙ ap length same, wrote ∙ ap (λ k. take k r.formats ++ drop k old) end ∙ ap (λ gs. gs ++ drop (length r.formats) old) (take_all (length r.formats) r.formats (omega arith)) ∙ ap (λ gs. gs ++ drop (length gs) old) same)

-- a row is a part of the sheet
pub row_long : (sheet : List ℕ) (k : ℕ) → row_bytes * k + row_bytes ≤ length sheet → length (take (row_bytes * k + row_bytes - row_bytes * k) (drop (row_bytes * k) sheet)) ≡ row_bytes
row_long sheet k room = omega (arith, length-take (row_bytes * k + row_bytes - row_bytes * k) (drop (row_bytes * k) sheet), length-drop (row_bytes * k) sheet)

pub row_put : (sheet row row' : List ℕ) (k : ℕ) → row ≡ row' → put_mid (row_bytes * k) (row_bytes * k + row_bytes - row_bytes * k) sheet row ≡ put_row sheet k row'
row_put sheet row row' k e =
    ap (put_mid (row_bytes * k) (row_bytes * k + row_bytes - row_bytes * k) sheet) e ∙ ap (λ rest. take (row_bytes * k) sheet ++ (row' ++ rest)) (Post-is (row_bytes * k) (row_bytes * k + row_bytes) sheet (omega arith))

-- a row whose first format was written, and then the others
pub round_begun : (row places tail : List ℕ) (goal : ℕ) (fs rest : List ℕ) → 2 ≤ length row → places ≡ fs ++ rest → drop 1 (take 2 (set row 1 goal) ++ (places ++ tail)) ≡ (goal ∷ fs) ++ (rest ++ tail)
round_begun [] places tail goal fs rest h e = absurd (omega arith)
round_begun (x ∷ []) places tail goal fs rest h e = absurd (omega arith)
round_begun (x ∷ y ∷ row) places tail goal fs rest h e = ap (λ ps. goal ∷ (ps ++ tail)) e ∙ ap (λ ps. goal ∷ ps) (append_assoc fs rest tail)

pub leads_few : (most : ℕ) (next : List ℕ) (goal from : ℕ) → LeadsIn most next goal from → (fs : List ℕ) → Follows next goal from fs → length fs ≤ most
leads_few most next goal from (gs, k, b, l) fs h = omega (arith, ap length (follows_same next goal from gs fs k h))

pub length_row_of : (fs : List ℕ) → length fs ≤ most_in_row → length (row_of fs) ≡ row_bytes
length_row_of fs few =
    let rest : List ℕ = replicate (most_in_row - length fs) 255 in
    omega (arith, length-append fs rest, length-replicate {A = ℕ} (most_in_row - length fs) 255)

pub get_or_row_at : (sheet : List ℕ) (k i : ℕ) → i < row_bytes → get_or (row_at sheet k) i 0 ≡ get_or sheet (row_bytes * k + i) 0
get_or_row_at sheet k i l = get_or-take row_bytes (drop (row_bytes * k) sheet) i 0 l ∙ get_or-drop (row_bytes * k) sheet i 0

-- what a row that is put leaves
module _ (sheet : List ℕ) (k : ℕ) (row : List ℕ) (room : row_bytes * k + row_bytes ≤ length sheet) (long : length row ≡ row_bytes) where
  front : length (take (row_bytes * k) sheet) ≡ row_bytes * k
  front = length-take-le (row_bytes * k) sheet (omega arith)

  pub length_put_row : length (put_row sheet k row) ≡ length sheet
  length_put_row = omega (arith, length-append (take (row_bytes * k) sheet) (row ++ drop (row_bytes * k + row_bytes) sheet), length-append row (drop (row_bytes * k + row_bytes) sheet), length-drop (row_bytes * k + row_bytes) sheet, front)

  pub row_at_put_row : row_at (put_row sheet k row) k ≡ row
  row_at_put_row = rw (drop_at (take (row_bytes * k) sheet) (row ++ drop (row_bytes * k + row_bytes) sheet) (row_bytes * k) front) (take_at row _ row_bytes long)

  pub get_or_put_row_below : (i : ℕ) → i < row_bytes * k → get_or (put_row sheet k row) i 0 ≡ get_or sheet i 0
  get_or_put_row_below i l = get_or_append_left (take (row_bytes * k) sheet) (row ++ drop (row_bytes * k + row_bytes) sheet) 0 i (omega (arith, front)) ∙ get_or-take (row_bytes * k) sheet i 0 l

  pub get_or_put_row_above : (i : ℕ) → row_bytes * k + row_bytes ≤ i → get_or (put_row sheet k row) i 0 ≡ get_or sheet i 0
  get_or_put_row_above i l =
      get_or-append_right (take (row_bytes * k) sheet) (row ++ drop (row_bytes * k + row_bytes) sheet) (row_bytes * k) i 0 front (omega arith) ∙
      get_or-append_right row (drop (row_bytes * k + row_bytes) sheet) row_bytes (i - row_bytes * k) 0 long (omega arith) ∙ get_or-drop (row_bytes * k + row_bytes) sheet (i - row_bytes * k - row_bytes) 0 ∙
      ap (λ j. get_or sheet j 0) (omega arith)

  pub row_at_put_row_other : (j : ℕ) → (j ≡ k → ⊥) → row_at (put_row sheet k row) j ≡ row_at sheet j
  row_at_put_row_other j ne = ext_get_or 0 (row_at (put_row sheet k row) j) (row_at sheet j) (size (put_row sheet k row) ∙ ap (λ n. min row_bytes (n - row_bytes * j)) length_put_row ∙ sym (size sheet)) same
    where
      size : (s : List ℕ) → length (row_at s j) ≡ min row_bytes (length s - row_bytes * j)
      size s = length-take row_bytes (drop (row_bytes * j) s) ∙ ap (min row_bytes) (length-drop (row_bytes * j) s)

      at : (i : ℕ) → i < row_bytes → (j < k) ⊎ (k ≤ j) → get_or (put_row sheet k row) (row_bytes * j + i) 0 ≡ get_or sheet (row_bytes * j + i) 0
      at i l (inl m) = get_or_put_row_below (row_bytes * j + i) (omega arith)
      at i l (inr m) = get_or_put_row_above (row_bytes * j + i) (omega (arith, ne))

      same : (i : ℕ) → i < length (row_at (put_row sheet k row) j) → get_or (row_at (put_row sheet k row) j) i 0 ≡ get_or (row_at sheet j) i 0
      same i l =
          let b : i < row_bytes = omega (arith, size (put_row sheet k row)) in
          get_or_row_at (put_row sheet k row) j i b ∙ at i b (cases_lt j k) ∙ sym (get_or_row_at sheet j i b)

-- the chain that a row has is read back
pub chain_of_row : (fs : List ℕ) → take (length fs) (drop 1 (row_of fs)) ≡ fs
chain_of_row fs = take_at fs (replicate (most_in_row - length fs) 255) (length fs) refl

-- the formats of a walk to a format below n are below n
walk_below : {A : Algebra} → Lawful A → (n : ℕ) (card : ℕ → ℕ → Option A.Value) → Sound A n card → (s t : ℕ) (fs : List ℕ) → t < n → FromTo s t fs → Walk A card fs → Below n fs
walk_below {A} L n card sound s t fs inside ends walk = go (one_or_path s t fs ends)
  where
    go : ((s ≡ t) × (fs ≡ s ∷ [])) ⊎ ((ms : List ℕ) × (fs ≡ path s ms t)) → Below n fs
    go (inl (same, is)) = rw is (omega arith, tt)
    go (inr (ms, is)) =
        let i = runs_inside L card n sound s ms t _ (to_runs L card s ms t (rw is at walk)) in
        rw is (i.0, below_join n ms (t ∷ []) i.1 (i.2, tt))

-- a chain over the cards of a table is short
pub chain_leads_in : {A : Algebra} → Lawful A → (n : ℕ) (card : ℕ → ℕ → Option A.Value) → Sound A n card → (most : ℕ) → n ≤ most_formats → n ≤ most → (next : List ℕ) (goal from : ℕ) (fs : List ℕ) →
    goal < n → Chain A card fs → Follows next goal from fs → LeadsIn most next goal from
chain_leads_in L n card sound most few room next goal from fs inside (walk, distinct) follows =
    let below = walk_below L n card sound from goal fs inside (follows_ends next goal from fs follows) walk in
    let short = distinct_few n fs below distinct in
    (fs, follows, below_mono n most_formats fs few below, omega arith)

-- so it can be written into a row
pub chain_leads : {A : Algebra} → Lawful A → (n : ℕ) (card : ℕ → ℕ → Option A.Value) → Sound A n card → n ≤ most_formats → (next : List ℕ) (goal from : ℕ) (fs : List ℕ) →
    goal < n → Chain A card fs → Follows next goal from fs → Leads next goal from
chain_leads L n card sound few = chain_leads_in L n card sound most_in_row few (omega arith)
