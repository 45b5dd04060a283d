-- Searches over tight cards, from one format each, until a format is met from which the table of next formats leads to the goal.
-- The way to it is laid from its end. Where a search meets none, no walk leads to the goal.
use Rattle.std.proofs.Common.{◌≡◌, ℕ, zero, suc, ◌+◌, ◌<◌, ◌≤◌, Bool, true, false, ◌⊎◌, List, [], ◌∷◌, ◌++◌, length, get_or, set, replicate, Some, None, Option, sym, refl, ap, ◌∙◌, subst, inl, inr, le_of_suc-le-suc, arith, below_more}
use Rattle.std.proofs.Math.Logic.{∥∥₁_elim}
use Rattle.std.specs.Coded.{le_prop}
use Rattle.std.proofs.Math.Seq.{get_or-append_seam}
use Rattle.std.proofs.lemmas.List.{get_or-set_same, get_or-set_other, get_or_append_left, length-append, length-set, length-replicate}
use Rattle.std.proofs.lemmas.Bool.{cases_eq, cases_lt, cases_Bool, both_ways}
use Rattle.costs.specs.Algebra.{Algebra, Lawful}
use Rattle.walks.specs.Walk.{Below, Absent, Distinct, cost}
use Rattle.registers.specs.Meaning.{most_formats}
use Rattle.bay.specs.FormatSets.{holds}
use Rattle.bay.specs.declared.sets.FormatSet.{FormatSet}
use Rattle.bay.specs.Tracing.{Clear, Ticked, Rises, SearchState, Lined, Wider, to_goal, GoalReady, TightIn, Scanned, Onward, Searched, Exhausted, LeadsToGoal, Covered, TickedFrom, Traced}
use Rattle.walks.proofs.Fold.{below_join}
use Rattle.walks.proofs.Cut.{distinct_few, distinct_end}
use Rattle.bay.proofs.Follow.{absent_free, ticked_kept, none_ticked, grown_start, grown_more, closed_never, follows_same}
use Rattle.bay.proofs.Tights.{to_goal_inside, to_goal_least}

ticked_push : (ticked : List Bool) (fs : List ℕ) (v : ℕ) → Ticked ticked fs → get_or ticked v false ≡ true → Ticked ticked (fs ++ v ∷ [])
ticked_push ticked [] v k e = (e, tt)
ticked_push ticked (f ∷ fs) v k e = (k.0, ticked_push ticked fs v k.1 e)

pub below_at : (h : ℕ) (fs : List ℕ) (k : ℕ) → k < length fs → Below h fs → get_or fs k 0 < h
below_at h [] k l b = absurd (omega arith)
below_at h (f ∷ fs) zero l b = b.0
below_at h (f ∷ fs) (suc k) l b = below_at h fs k (le_of_suc-le-suc l) b.1

ticked_at : (ticked : List Bool) (fs : List ℕ) (k : ℕ) → k < length fs → Ticked ticked fs → get_or ticked (get_or fs k 0) false ≡ true
ticked_at ticked [] k l b = absurd (omega arith)
ticked_at ticked (f ∷ fs) zero l b = b.0
ticked_at ticked (f ∷ fs) (suc k) l b = ticked_at ticked fs k (le_of_suc-le-suc l) b.1

absent_at : (f : ℕ) (fs : List ℕ) (k : ℕ) → k < length fs → Absent f fs → f ≡ get_or fs k 0 → ⊥
absent_at f [] k l a = absurd (omega arith)
absent_at f (g ∷ fs) zero l a = a.0
absent_at f (g ∷ fs) (suc k) l a = absent_at f fs k (le_of_suc-le-suc l) a.1

-- a format stands in one place
distinct_at : (fs : List ℕ) (j k : ℕ) → j < k → k < length fs → Distinct fs → get_or fs j 0 ≡ get_or fs k 0 → ⊥
distinct_at [] j k l m d = absurd (omega arith)
distinct_at (f ∷ fs) j zero l m d = absurd (omega arith)
distinct_at (f ∷ fs) zero (suc k) l m d = absent_at f fs k (le_of_suc-le-suc m) d.0
distinct_at (f ∷ fs) (suc j) (suc k) l m d = distinct_at fs j k (le_of_suc-le-suc l) (le_of_suc-le-suc m) d.1

module _ (n : ℕ) (marks : List Bool) (formats : List ℕ) (lined : Lined n marks formats) (v : ℕ) (l : v < n) (free : get_or marks v false ≡ false) where
  -- while a format has no mark, the list has not all of them
  lined_room : length formats < n
  lined_room =
      let few = distinct_few n (v ∷ formats) (l, lined.below) (absent_free marks v free formats lined.inside, lined.distinct) in
      omega arith

  lined_more : n ≤ length marks → Lined n (set marks v true) (formats ++ v ∷ [])
  lined_more t =
      let on = get_or-set_same marks v true false (omega arith) in
      record {
        below = below_join n formats (v ∷ []) lined.below (l, tt);
        distinct = distinct_end formats v lined.distinct (absent_free marks v free formats lined.inside);
        inside = ticked_push (set marks v true) formats v (ticked_kept marks v free formats lined.inside) on;
        all = λ x k. at x k (cases_eq x v);
      }
    where
      at : (x : ℕ) → get_or (set marks v true) x false ≡ true → (x ≡ v) ⊎ (x ≡ v → ⊥) → (k : ℕ) × (k < length (formats ++ v ∷ [])) × (get_or (formats ++ v ∷ []) k 0 ≡ x)
      at x k (inl e) = (length formats, omega (arith, length-append formats (v ∷ [])), get_or-append_seam formats v [] 0 ∙ sym e)
      at x k (inr ne) =
          let (j, b, e) = lined.all x (sym (get_or-set_other marks v x true false ne) ∙ k) in
          (j, omega (arith, length-append formats (v ∷ [])), get_or_append_left formats (v ∷ []) 0 j b ∙ e)

pub still_ticked : (marks : List Bool) (v x : ℕ) → v < length marks → get_or marks x false ≡ true → get_or (set marks v true) x false ≡ true
still_ticked marks v x l e = go (cases_eq x v)
  where
    go : (x ≡ v) ⊎ (x ≡ v → ⊥) → get_or (set marks v true) x false ≡ true
    go (inl d) = rw d (get_or-set_same marks v true false l)
    go (inr ne) = get_or-set_other marks v x true false ne ∙ e

wider_more : (before marks : List Bool) (formats longer : List ℕ) (v : ℕ) → v < length marks → Wider before marks formats longer →
    Wider before (set marks v true) formats (longer ++ v ∷ [])
wider_more before marks formats longer v l w = record {
  rises = omega (arith, w.rises, length-append longer (v ∷ []));
  marks = λ x e. still_ticked marks v x l (w.marks x e);
  front = λ k b. get_or_append_left longer (v ∷ []) 0 k (omega (arith, w.rises)) ∙ w.front k b;
}

pub wider_none : (marks : List Bool) (formats : List ℕ) → Wider marks marks formats formats
wider_none marks formats = record { rises = omega arith; marks = λ v e. e; front = λ k l. refl }

pub wider_on : (marks later last : List Bool) (formats longer longest : List ℕ) → Wider marks later formats longer → Wider later last longer longest →
    Wider marks last formats longest
wider_on marks later last formats longer longest w u = record {
  rises = omega (arith, w.rises, u.rises);
  marks = λ v e. u.marks v (w.marks v e);
  front = λ k l. u.front k (omega (arith, w.rises)) ∙ w.front k l;
}

-- with one more format, reached from the one at the place
abbrev pub pushed : SearchState → ℕ → ℕ → SearchState
pushed r w place = record { formats = r.formats ++ w ∷ []; origins = r.origins ++ place ∷ []; marks = set r.marks w true }

module _ (A : Algebra) (n : ℕ) (card : ℕ → ℕ → Option A.Value) (dist : ℕ → Option A.Value) (goal : ℕ) where
  -- what holds of a scan from v with the formats below k looked at, where it began with `before`
  abbrev pub Turn : List Bool → SearchState → ℕ → FormatSet → SearchState → Type 0
  Turn ticked before v left r =
      Searched A n card dist goal ticked r × Wider before.marks r.marks before.formats r.formats × ((w : ℕ) → w < most_formats → holds left w ≡ true → w < n) ×
      ((w : ℕ) → w < n → TightIn A n card dist goal v w → (get_or r.marks w false ≡ true) ⊎ (holds left w ≡ true))

  -- what holds while a way is laid, from its end: the format at the place comes next, and goes on to `to`
  pub record Laying (first : List Bool) (r : SearchState) (place to : ℕ) (ticked : List Bool) (next : List ℕ) : Type 0 where
    pub leads : LeadsToGoal A n card dist goal ticked next
    pub rises : Rises first ticked
    pub inside : place < length r.formats
    pub free : (k : ℕ) → k ≤ place → get_or ticked (get_or r.formats k 0) false ≡ false
    pub onward : Onward A n card dist goal ticked (get_or r.formats place 0) to

-- what an aim is known for, whichever way that was shown
module _ (A : Algebra) (n : ℕ) (card : ℕ → ℕ → Option A.Value) (dist : ℕ → Option A.Value) (goal : ℕ) (ready : ∥ GoalReady A n card dist goal ∥₁) where
  pub aim_few : n ≤ most_formats
  aim_few = ∥∥₁_elim ready le_prop (λ r. r.few)

  pub aim_inside : goal < n
  aim_inside = ∥∥₁_elim ready le_prop (λ r. r.inside)

-- the first format of a search has its mark
pub start_marked : (v : ℕ) → v < most_formats → get_or (set (replicate most_formats false) v true) v false ≡ true
start_marked v l = let long : length (replicate most_formats false) ≡ most_formats = length-replicate most_formats false in get_or-set_same (replicate most_formats false) v true false (omega (arith, l, long))

module _ {A : Algebra} (L : Lawful A) (n : ℕ) (card : ℕ → ℕ → Option A.Value) (dist : ℕ → Option A.Value) (goal : ℕ) where
  abbrev Seeks : List Bool → SearchState → Type 0
  Seeks = Searched A n card dist goal

  abbrev Leads : ℕ → ℕ → Type 0
  Leads = TightIn A n card dist goal

  pub searched_at : (ticked : List Bool) (r : SearchState) → Seeks ticked r → (k : ℕ) → k < length r.formats →
      (get_or r.formats k 0 < n) × (get_or r.marks (get_or r.formats k 0) false ≡ true)
  searched_at ticked r s k l = (below_at n r.formats k l s.lined.below, ticked_at r.marks r.formats k l s.lined.inside)

  -- each format is reached once
  pub searched_few : (ticked : List Bool) (r : SearchState) → Seeks ticked r → length r.formats ≤ n
  searched_few ticked r s = distinct_few n r.formats s.lined.below s.lined.distinct

  -- the places before one are scanned, and now that place too
  pub scans_on : (r later : SearchState) (place : ℕ) → place < length r.formats → Wider r.marks later.marks r.formats later.formats →
      ((k : ℕ) → k < place → Scanned A n card dist goal r.marks (get_or r.formats k 0) n) → Scanned A n card dist goal later.marks (get_or r.formats place 0) n →
      (k : ℕ) → k < place + 1 → Scanned A n card dist goal later.marks (get_or later.formats k 0) n
  scans_on r later place l wider done here =
      below_more (λ k. Scanned A n card dist goal later.marks (get_or later.formats k 0) n) place
      (λ k b w c h. wider.marks w (done k b w c (subst (λ v. Leads v w) (wider.front k (omega arith)) h)))
      (λ w c h. here w c (subst (λ v. Leads v w) (wider.front place l) h))

  module _ (few : n ≤ most_formats) where
    pub searched_start : (ticked : List Bool) (v : ℕ) → v < n → get_or ticked v false ≡ false →
        Seeks ticked (record { formats = v ∷ []; origins = 0 ∷ []; marks = set (replicate most_formats false) v true })
    searched_start ticked v l free =
        let long : length (replicate most_formats false) ≡ most_formats = length-replicate most_formats false in
        let on = start_marked v (omega (arith, few)) in
        record {
          lined = record { below = (l, tt); distinct = (tt, tt); inside = (on, tt); all = λ w k. at w k (cases_eq w v) };
          long_marks = length-set (replicate most_formats false) v true ∙ long;
          long_origins = refl;
          free = λ k b. first k b;
          tight = λ k b c. absurd (omega arith);
        }
      where
        at : (w : ℕ) → get_or (set (replicate most_formats false) v true) w false ≡ true → (w ≡ v) ⊎ (w ≡ v → ⊥) → (k : ℕ) × (k < 1) × (get_or (v ∷ []) k 0 ≡ w)
        at w k (inl e) = (0, omega arith, sym e)
        at w k (inr ne) = absurd (both_ways _ (get_or-set_other (replicate most_formats false) v w true false ne ∙ none_ticked most_formats w) k)

        first : (k : ℕ) → k < 1 → get_or ticked (get_or (v ∷ []) k 0) false ≡ false
        first zero b = free
        first (suc k) b = absurd (omega arith)

    -- what has no mark and no tick joins the search
    module _ (ticked : List Bool) (r : SearchState) (s : Seeks ticked r) (w : ℕ) (l : w < n) (free : get_or r.marks w false ≡ false) where
      pub searched_room : length r.formats < most_formats
      searched_room = omega (arith, lined_room n r.marks r.formats s.lined w l free, few)

      searched_more : (place : ℕ) → place < length r.formats → get_or ticked w false ≡ false → Leads (get_or r.formats place 0) w → Seeks ticked (pushed r w place)
      searched_more place b off tight = record {
        lined = lined_more n r.marks r.formats s.lined w l free (omega (arith, few, s.long_marks));
        long_marks = length-set r.marks w true ∙ s.long_marks;
        long_origins = omega (arith, length-append r.formats (w ∷ []), length-append r.origins (place ∷ []), s.long_origins);
        free = λ k c. free_at k (cases_lt k (length r.formats)) (omega (arith, length-append r.formats (w ∷ [])));
        tight = λ k c d. tight_at k c (cases_lt k (length r.formats)) (omega (arith, length-append r.formats (w ∷ [])));
      }
        where
          old : (k : ℕ) → k < length r.formats → get_or (r.formats ++ w ∷ []) k 0 ≡ get_or r.formats k 0
          old k c = get_or_append_left r.formats (w ∷ []) 0 k c

          free_at : (k : ℕ) → (k < length r.formats) ⊎ (length r.formats ≤ k) → k < length r.formats + 1 → get_or ticked (get_or (r.formats ++ w ∷ []) k 0) false ≡ false
          free_at k (inl c) d = rw (old k c) (s.free k c)
          free_at k (inr c) d =
              let e : k ≡ length r.formats = omega arith in
              rw (e, get_or-append_seam r.formats w [] 0) off

          tight_at : (k : ℕ) → 0 < k → (k < length r.formats) ⊎ (length r.formats ≤ k) → k < length r.formats + 1 →
              (get_or (r.origins ++ place ∷ []) k 0 < k) × Leads (get_or (r.formats ++ w ∷ []) (get_or (r.origins ++ place ∷ []) k 0) 0) (get_or (r.formats ++ w ∷ []) k 0)
          tight_at k z (inl c) d =
              let (i, t) = s.tight k z c in
              let o : get_or (r.origins ++ place ∷ []) k 0 ≡ get_or r.origins k 0 = get_or_append_left r.origins (place ∷ []) 0 k (omega (arith, s.long_origins)) in
              rw (o, old k c, old (get_or r.origins k 0) (omega arith)) (i, t)
          tight_at k z (inr c) d =
              let e : k ≡ length r.origins = omega (arith, s.long_origins) in
              let f : get_or (r.formats ++ w ∷ []) k 0 ≡ w = ap (λ j. get_or (r.formats ++ w ∷ []) j 0) (omega arith) ∙ get_or-append_seam r.formats w [] 0 in
              let o : get_or (r.origins ++ place ∷ []) k 0 ≡ place = ap (λ j. get_or (r.origins ++ place ∷ []) j 0) e ∙ get_or-append_seam r.origins place [] 0 in
              rw (o, f, old place b) (omega arith, tight)

    -- one turn of a scan, where w joins and where it does not
    module _ (ticked : List Bool) (before : SearchState) (v w : ℕ) (r : SearchState) (left : FormatSet) (turn : Turn A n card dist goal ticked before v left r) (r' : SearchState)
        (left' : FormatSet) (gone : holds left' w ≡ false) (others : (f : ℕ) → f < most_formats → (f ≡ w → ⊥) → holds left' f ≡ holds left f) where
      within : (f : ℕ) → f < most_formats → holds left' f ≡ true → f < n
      within f l h = elim (cases_eq f w) [
        | inl e ↦ absurd (both_ways (holds left' f) (subst (λ f. holds left' f ≡ false) (sym e) gone) h)
        | inr ne ↦ turn.2 f l (sym (others f l ne) ∙ h)
      ]

      pub turn_joins : (place : ℕ) → w < n → get_or r.marks w false ≡ false → get_or ticked w false ≡ false → place < length before.formats →
          v ≡ get_or before.formats place 0 → Leads v w → r' ≡ pushed r w place → Turn A n card dist goal ticked before v left' r'
      turn_joins place l free off b e tight p =
          let (s, wider, inside, scanned) = turn in
          let at : v ≡ get_or r.formats place 0 = e ∙ sym (wider.front place b) in
          let room : w < length r.marks = omega (arith, few, s.long_marks) in
          rw p (
            searched_more ticked r s w l free place (omega (arith, wider.rises)) off (rw at at tight),
            wider_more before.marks r.marks before.formats r.formats w room wider,
            within,
            λ k c h. elim (cases_eq k w) [
              | inl e ↦ inl (subst (λ k. get_or (set r.marks w true) k false ≡ true) (sym e) (get_or-set_same r.marks w true false room))
              | inr ne ↦ elim (scanned k c h) [ inl m ↦ inl (still_ticked r.marks w k room m) | inr i ↦ inr (others k (omega (arith, c, few)) ne ∙ i) ]
            ],
          )

      pub turn_passes : (Leads v w → get_or r.marks w false ≡ true) → r' ≡ r → Turn A n card dist goal ticked before v left' r'
      turn_passes h p =
          let (s, wider, inside, scanned) = turn in
          rw p (
            s,
            wider,
            within,
            λ k c t. elim (cases_eq k w) [
              | inl e ↦ inl (subst (λ k. get_or r.marks k false ≡ true) (sym e) (h (subst (λ k. Leads v k) e t)))
              | inr ne ↦ elim (scanned k c t) [ inl m ↦ inl m | inr i ↦ inr (others k (omega (arith, c, few)) ne ∙ i) ]
            ],
          )

    pub tended_start : (ticked : List Bool) (next : List ℕ) → goal < n → to_goal A n card dist goal goal ≡ Some A.unit → length ticked ≡ most_formats → length next ≡ most_formats → Clear ticked →
        LeadsToGoal A n card dist goal (set ticked goal true) next
    tended_start ticked next inside own t x clear = record {
      grown = grown_start A card (to_goal A n card dist goal) goal ticked next own clear;
      rooted = get_or-set_same ticked goal true false (omega (arith, inside, few));
      long_ticked = length-set ticked goal true ∙ t;
      long_next = x;
    }

    tended_more : (ticked : List Bool) (next : List ℕ) → LeadsToGoal A n card dist goal ticked next → (v w : ℕ) → v < n → get_or ticked v false ≡ false →
        get_or ticked w false ≡ true → Leads v w → LeadsToGoal A n card dist goal (set ticked v true) (set next v w)
    tended_more ticked next t v w l free i tight =
        let b : v < length ticked = omega (arith, few, t.long_ticked) in
        record {
          grown = grown_more A card (to_goal A n card dist goal) goal ticked next t.grown v w i free b (omega (arith, few, t.long_next)) tight;
          rooted = still_ticked ticked v goal b t.rooted;
          long_ticked = length-set ticked v true ∙ t.long_ticked;
          long_next = length-set next v w ∙ t.long_next;
        }

    pub laying_start : (r : SearchState) (place to : ℕ) (ticked : List Bool) (next : List ℕ) → Seeks ticked r → LeadsToGoal A n card dist goal ticked next →
        place < length r.formats → Onward A n card dist goal ticked (get_or r.formats place 0) to → Laying A n card dist goal ticked r place to ticked next
    laying_start r place to ticked next s t l o = record { leads = t; rises = λ v e. e; inside = l; free = λ k b. s.free k (omega arith); onward = o }

    module _ (first : List Bool) (r : SearchState) (s : Seeks first r) (place to : ℕ) (ticked : List Bool) (next : List ℕ) (lay : Laying A n card dist goal first r place to ticked next) where
      abbrev pub v : ℕ
      v = get_or r.formats place 0

      l : v < n
      l = (searched_at first r s place lay.inside).0

      pub laid_room : v < most_formats
      laid_room = omega (arith, few, l)

      room : v < length ticked
      room = omega (arith, few, l, lay.leads.long_ticked)

      pub laid_tended : LeadsToGoal A n card dist goal (set ticked v true) (set next v to)
      laid_tended = tended_more ticked next lay.leads v to l (lay.free place (omega arith)) lay.onward.1 lay.onward.2

      pub laid_rises : Rises first (set ticked v true)
      laid_rises x e = still_ticked ticked v x room (lay.rises x e)

      pub laid_first : place ≡ 0 → get_or (set ticked v true) (get_or r.formats 0 0) false ≡ true
      laid_first e =
          let same : get_or r.formats 0 0 ≡ v = ap (λ k. get_or r.formats k 0) (sym e) in
          rw same (get_or-set_same ticked v true false room)

      pub laid_origin : (0 < place) → get_or r.origins place 0 < place
      laid_origin z = (s.tight place z lay.inside).0

      pub laid_more : 0 < place → Laying A n card dist goal first r (get_or r.origins place 0) v (set ticked v true) (set next v to)
      laid_more z =
          let (o, t) = s.tight place z lay.inside in
          record {
            leads = laid_tended;
            rises = laid_rises;
            inside = omega (arith, lay.inside);
            free = λ k b. get_or-set_other ticked v (get_or r.formats k 0) true false (distinct_at r.formats k place (omega arith) lay.inside s.lined.distinct) ∙ lay.free k (omega arith);
            onward = (l, get_or-set_same ticked v true false room, t);
          }

  -- the marks of a search leave out the goal, which has a tick
  module _ (ready : GoalReady A n card dist goal) (ticked : List Bool) (r : SearchState) (s : Seeks ticked r) (rooted : get_or ticked goal false ≡ true) where
    goal_free : get_or r.marks goal false ≡ false
    goal_free = go (cases_Bool (get_or r.marks goal false))
      where
        go : (get_or r.marks goal false ≡ true) ⊎ (get_or r.marks goal false ≡ false) → get_or r.marks goal false ≡ false
        go (inl e) = let (k, b, f) = s.lined.all goal e in absurd (both_ways _ (s.free k b) (rw f rooted))
        go (inr e) = e

    exhausted : Exhausted A n card dist goal r → (v : ℕ) → get_or r.marks v false ≡ true → (x : A.Value) → to_goal A n card dist goal v ≡ Some x → ⊥
    exhausted done = closed_never L n card ready.sound ready.calm goal (to_goal A n card dist goal)
        (to_goal_least L n card dist goal ready) r.marks goal_free
        (λ v w m i tight. let (k, b, e) = s.lined.all v i in done k b w m (rw e tight))

  pub exhausted_never : ∥ GoalReady A n card dist goal ∥₁ → (ticked : List Bool) (r : SearchState) → Seeks ticked r → get_or ticked goal false ≡ true →
      Exhausted A n card dist goal r → (v : ℕ) → get_or r.marks v false ≡ true → (x : A.Value) → to_goal A n card dist goal v ≡ Some x → ⊥
  exhausted_never ready ticked r s rooted done v i x e = ∥∥₁_elim ready (λ a b. absurd a) (λ q. exhausted q ticked r s rooted done v i x e)

  pub served_on : (ticked later : List Bool) (v : ℕ) → Rises ticked later → Covered A n card dist goal ticked v → Covered A n card dist goal later v
  served_on ticked later v rises (inl i) = inl (rises v i)
  served_on ticked later v rises (inr f) = inr f

  pub served_traced : (ready : GoalReady A n card dist goal) (ticked : List Bool) (next : List ℕ) → LeadsToGoal A n card dist goal ticked next → (v : ℕ) → v < n →
      Covered A n card dist goal ticked v → Traced A n card dist goal next v
  served_traced ready ticked next t v l (inl i) =
      let led = t.grown v i in
      let d : dist v ≡ Some (cost A card led.formats) = sym (to_goal_inside L n card dist goal v l) ∙ led.costs in
      rw d (led.formats, (led.walks, led.distinct), refl, led.follows)
  served_traced ready ticked next t v l (inr f) = go (dist v) refl
    where
      go : (o : Option A.Value) → dist v ≡ o → Traced A n card dist goal next v
      go None e = rw e (rw e at (ready.least v l))
      go (Some x) e = absurd (f x (to_goal_inside L n card dist goal v l ∙ e))

  pub served_ticked : (ticked : List Bool) (next : List ℕ) → LeadsToGoal A n card dist goal ticked next → (v : ℕ) → v < n →
      Covered A n card dist goal ticked v → TickedFrom A n card dist goal ticked next v
  served_ticked ticked next t v l (inl i) x e fs h = let led = t.grown v i in subst (Ticked ticked) (follows_same next goal v led.formats fs led.follows h) led.inside
  served_ticked ticked next t v l (inr f) x e fs h = absurd (f x (to_goal_inside L n card dist goal v l ∙ e))
