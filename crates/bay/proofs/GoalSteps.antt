-- The second and the third stage, step by step: rows of goals by way of one format.
use Rattle.std.proofs.Common.{◌≡◌, ℕ, suc, ◌+◌, ◌*◌, ◌<◌, ◌≤◌, min, max, true, false, cond, ltb, ◌⊎◌, get_or, set, Some, None, Option, sym, refl, ap, ◌∙◌, subst, inl, inr, arith}
use Rattle.std.proofs.lemmas.List.{get_or-set_same, get_or-set_other}
use Rattle.std.proofs.lemmas.Bool.{cases_Bool, cases_eq, cases_lt, both_ways, lt-ltb, le-ltb, cond-true, cond-false}
use Rattle.costs.specs.declared.Cost.{Ghosts as Kind}
use Rattle.costs.specs.Algebra.{Lawful}
use Rattle.walks.specs.Levels.{ByWay, Near, NoLoopBelow}
use Rattle.walks.specs.Theorems.{Either, Sound}
use Rattle.walks.specs.Walk.{Least, LeastOf, LowLeast}
use Rattle.walks.proofs.Cut.{unit_is_least}
use Rattle.walks.proofs.Fold.{fold_step}
use Rattle.walks.proofs.Loops.{no_hidden_loop}
use Rattle.walks.proofs.Stages.{low_end, third_cell}
use Rattle.bay.specs.Cells.{Table, Roomy, tabled, least_in}
use Rattle.bay.specs.Eliminated.{Block, FirstDone, Improved, InRow, Leads, NearBack, NearBy, RowReady, SecondTo, Spans, ThirdDone, ThirdFrom, TurnedDone}
use Rattle.bay.specs.FormatSets.{holds, no_formats}
use Rattle.bay.specs.declared.cells.Cell.{Cell}
use Rattle.bay.specs.declared.elimination.Via.{Via}
use Rattle.bay.specs.declared.sets.FormatSet.{FormatSet}
use Rattle.bay.proofs.Columns.{either_turned, ways_alike, ways_more, ways_none, ways_skip}
use Rattle.bay.proofs.Levels.{near_least, near_low}
use Rattle.bay.proofs.Passes.{improved_wider, least_alike, least_none, least_there, meaning_other, meaning_same, place_lt, place_same}

module _ {C : Type 0} (K : Kind C) (L : Lawful K.algebra) (n : ℕ) where
  -- a pass over what the pivot leads to is one over all columns of its range
  pub row_block : (at s low high : ℕ) (via : Via) (now later : Table C) → high ≤ n → Leads (get_or now.there at no_formats) low high via.reached →
      Improved K n at (InRow s via.reached) now later → Improved K n at (Block s (s + 1) low high) now later
  row_block at s low high via now later few leads i =
      improved_wider K n L at (InRow s via.reached) (Block s (s + 1) low high) now later
      (λ a w h. (let l = leads.each w h.1 in (omega (arith, h.0), omega (arith, h.0), l.0, l.1)))
      (λ a w la lw b. split a w b (cases_Bool (holds via.reached w))) i
    where
      split : (a w : ℕ) → Block s (s + 1) low high a w → (holds via.reached w ≡ true) ⊎ (holds via.reached w ≡ false) →
          InRow s via.reached a w ⊎ ((InRow s via.reached a w → ⊥) × ((least_in K n now a at ≡ None) ⊎ (least_in K n now at w ≡ None)))
      split a w b (inl h) = inl (omega (arith, b.0, b.1), h)
      split a w b (inr h) = inr (λ g. both_ways _ h g.1, inr (least_none K n now at w (gone (cases_Bool (holds (get_or now.there at no_formats) w)))))
        where
          gone : (holds (get_or now.there at no_formats) w ≡ true) ⊎ (holds (get_or now.there at no_formats) w ≡ false) → holds (get_or now.there at no_formats) w ≡ false
          gone (inl g) = absurd (both_ways _ h (leads.all w b.2 b.3 g))
          gone (inr g) = g

  pub goal_ready : (at s low high : ℕ) (via : Via) (now : Table C) → Roomy K n now → s < n → at < n → (s ≡ at → ⊥) → via.at ≡ at → Spans n via → ((w : ℕ) → low ≤ w → w < high → w ≡ at → ⊥) →
      Leads (get_or now.there at no_formats) low high via.reached → RowReady K n s via now
  goal_ready at s low high via now roomy ls la ne is spans out leads = record {
    roomy = roomy;
    inside = (ls, omega (arith, is, la), λ e. ne (e ∙ is));
    spans = spans;
    reached = λ w h. (let l = leads.each w h in (λ e. out w l.0 l.1 (e ∙ is), subst (λ a. holds (get_or now.there a no_formats) w ≡ true) (sym is) l.2));
  }

  pub back_near : (goal j : ℕ) (via : Via) (now : Table C) → via.at ≡ j → Leads (get_or now.there j no_formats) 0 j via.reached → NearBack K n goal j now → NearBy K n goal via now
  back_near goal j via now is leads near = (
    λ x e. near.0 x (subst (λ a. least_in K n now goal a ≡ Some x) is e),
    λ w h x e. near.1 w (leads.each w h).1 x (subst (λ a. least_in K n now a w ≡ Some x) is e),
  )

  module _ (card : ℕ → ℕ → Option K.algebra.Value) (sound : Sound K.algebra n card) (calm : NoLoopBelow K.algebra card n) where
    -- the rows of goals below g have been passed by way of j
    abbrev pub level : ℕ → ℕ → ℕ → ℕ
    level j g s = cond (ltb s g) (suc j) j

    level_under : (j g s : ℕ) → s < g → level j g s ≡ suc j
    level_under j g s l = cond-true (ltb s g) _ _ (lt-ltb s g l)

    level_over : (j g s : ℕ) → g ≤ s → level j g s ≡ j
    level_over j g s l = cond-false (ltb s g) _ _ (le-ltb s g l)

    at_level : (s w l m : ℕ) (o : Option K.algebra.Value) → l ≡ m → LowLeast K.algebra card l w s o → LowLeast K.algebra card m w s o
    at_level s w l m o e = subst (λ l. LowLeast K.algebra card l w s o) e

    module _ (goals : FormatSet) (now : Table C) where
      pub second_start : TurnedDone K n card now → SecondTo K n card now goals (λ s. 0)
      second_start done = record {
        low = λ s w ls lw ne h. done s w ls lw ne;
        high = λ s w ls lw ne h l. at_level s w _ _ _ (omega arith) (done s w ls lw ne);
      }

      pub second_enter : (j : ℕ) → SecondTo K n card now goals (λ s. j) → SecondTo K n card now goals (level j 0)
      second_enter j S = record { low = S.low; high = λ s w ls lw ne h l. at_level s w _ _ _ (ap (λ k. min w (max k s)) (sym (level_over j 0 s (omega arith)))) (S.high s w ls lw ne h l) }

      pub second_leave : (j : ℕ) → j < n → SecondTo K n card now goals (level j j) → SecondTo K n card now goals (λ s. suc j)
      second_leave j lj S = record { low = S.low; high = λ s w ls lw ne h l. high s w ls lw ne h l (cases_lt s j) (cases_eq s j) }
        where
          high : (s w : ℕ) → s < n → w < n → (s ≡ w → ⊥) → holds goals s ≡ true → s < w → (s < j) ⊎ (j ≤ s) → (s ≡ j) ⊎ (s ≡ j → ⊥) → LowLeast K.algebra card (min w (max (suc j) s)) w s (least_in K n now s w)
          high s w ls lw ne h l (inl u) d = at_level s w _ _ _ (ap (λ k. min w (max k s)) (level_under j j s u)) (S.high s w ls lw ne h l)
          high s w ls lw ne h l (inr u) (inl e) =
              let before = at_level s w _ s _ (ap (λ k. min w (max k s)) (level_over j j s u) ∙ omega arith) (S.high s w ls lw ne h l) in
              at_level s w (suc s) _ _ (omega arith) (low_end L card w s _ (calm s ls) before)
          high s w ls lw ne h l (inr u) (inr d) = at_level s w _ _ _ (ap (λ k. min w (max k s)) (level_over j j s u) ∙ omega arith) (S.high s w ls lw ne h l)

      pub second_end : SecondTo K n card now goals (λ s. n) → ThirdFrom K n card now goals 0
      second_end S s w ls lw ne h = inl (go (cases_lt w s) h)
        where
          go : (w < s) ⊎ (s ≤ w) → (w < s) ⊎ (holds goals s ≡ true) → LowLeast K.algebra card w w s (least_in K n now s w)
          go (inl l) k = at_level s w _ _ _ (omega arith) (S.low s w ls lw ne (inl l))
          go (inr l) (inl k) = absurd (omega arith)
          go (inr l) (inr k) = at_level s w _ _ _ (omega arith) (S.high s w ls lw ne k (omega (arith, l, ne)))

      -- a format that is no goal has no turn
      pub second_skip : (j g : ℕ) → holds goals g ≡ false → SecondTo K n card now goals (level j g) → SecondTo K n card now goals (level j (g + 1))
      second_skip j g none S = record { low = S.low; high = λ s w ls lw ne h l. go s w ls lw ne h l (cases_lt s g) (cases_eq s g) }
        where
          go : (s w : ℕ) → s < n → w < n → (s ≡ w → ⊥) → holds goals s ≡ true → s < w → (s < g) ⊎ (g ≤ s) → (s ≡ g) ⊎ (s ≡ g → ⊥) → LowLeast K.algebra card (min w (max (level j (g + 1) s) s)) w s (least_in K n now s w)
          go s w ls lw ne h l (inl u) d = at_level s w _ _ _ (ap (λ k. min w (max k s)) (level_under j g s u ∙ sym (level_under j (g + 1) s (omega arith)))) (S.high s w ls lw ne h l)
          go s w ls lw ne h l (inr u) (inl e) = absurd (both_ways _ none (subst (λ s. holds goals s ≡ true) e h))
          go s w ls lw ne h l (inr u) (inr d) = at_level s w _ _ _ (ap (λ k. min w (max k s)) (level_over j g s u ∙ sym (level_over j (g + 1) s (omega (arith, u, d))))) (S.high s w ls lw ne h l)

      module _ (j g : ℕ) (lj : j < n) (below : g < j) (is_goal : holds goals g ≡ true) (S : SecondTo K n card now goals (level j g)) where
        -- what the pivot has above itself, and what the goal has at the pivot
        pivot_low : (w : ℕ) → j < w → w < n → LowLeast K.algebra card j w j (least_in K n now j w)
        pivot_low w l lw = go (cases_Bool (holds goals j))
          where
            go : (holds goals j ≡ true) ⊎ (holds goals j ≡ false) → LowLeast K.algebra card j w j (least_in K n now j w)
            go (inl h) = at_level j w _ _ _ (ap (λ k. min w (max k j)) (level_over j g j (omega arith)) ∙ omega arith) (S.high j w lj lw (λ e. absurd (omega arith)) h l)
            go (inr h) = at_level j w _ _ _ (omega arith) (S.low j w lj lw (λ e. absurd (omega arith)) (inr h))

        goal_low : (w : ℕ) → j ≤ w → w < n → LowLeast K.algebra card j w g (least_in K n now g w)
        goal_low w l lw = at_level g w _ _ _ (ap (λ k. min w (max k g)) (level_over j g g (omega arith)) ∙ omega arith) (S.high g w (omega arith) lw (λ e. absurd (omega arith)) is_goal (omega arith))

        pub second_near : (via : Via) → via.at ≡ j → Leads (get_or now.there j no_formats) (j + 1) n via.reached → NearBy K n g via now
        second_near via is leads = (
          λ x e. near_low K L n card sound j j g _ (omega arith) (λ k l. calm k (omega arith)) (goal_low j (omega arith) lj) x (subst (λ a. least_in K n now g a ≡ Some x) is e),
          λ w h x e. (let l = leads.each w h in near_low K L n card sound j w j _ (omega arith) (λ k l. calm k (omega arith)) (pivot_low w (omega (arith, l.0)) l.1) x (subst (λ a. least_in K n now a w ≡ Some x) is e)),
        )

        pub second_more : (later : Table C) → Improved K n j (Block g (g + 1) (j + 1) n) now later → SecondTo K n card later goals (level j (g + 1))
        second_more later i = record {
          low = λ s w ls lw ne h. subst (LowLeast K.algebra card (min s w) w s) (sym (i.missed s w ls lw (λ b. out s w h b))) (S.low s w ls lw ne h);
          high = λ s w ls lw ne h l. high s w ls lw ne h l (cases_lt s g) (cases_eq s g) (cases_lt j w);
        }
          where
            out : (s w : ℕ) → (w < s) ⊎ (holds goals s ≡ false) → Block g (g + 1) (j + 1) n s w → ⊥
            out s w (inl l) b = omega (arith, b.0, b.1, b.2, l)
            out s w (inr h) b = let e : g ≡ s = omega (arith, b.0, b.1) in both_ways _ h (subst (λ s. holds goals s ≡ true) e is_goal)

            high : (s w : ℕ) → s < n → w < n → (s ≡ w → ⊥) → holds goals s ≡ true → s < w → (s < g) ⊎ (g ≤ s) → (s ≡ g) ⊎ (s ≡ g → ⊥) → (j < w) ⊎ (w ≤ j) →
                LowLeast K.algebra card (min w (max (level j (g + 1) s) s)) w s (least_in K n later s w)
            high s w ls lw ne h l (inl u) d m =
                subst (LowLeast K.algebra card _ w s) (sym (i.missed s w ls lw (λ b. absurd (omega (arith, b.0)))))
                (at_level s w _ _ _ (ap (λ k. min w (max k s)) (level_under j g s u ∙ sym (level_under j (g + 1) s (omega arith)))) (S.high s w ls lw ne h l))
            high s w ls lw ne h l (inr u) (inr d) m =
                subst (LowLeast K.algebra card _ w s) (sym (i.missed s w ls lw (λ b. d (omega (arith, b.0, b.1)))))
                (at_level s w _ _ _ (ap (λ k. min w (max k s)) (level_over j g s u ∙ sym (level_over j (g + 1) s (omega (arith, u, d))))) (S.high s w ls lw ne h l))
            high s w ls lw ne h l (inr u) (inl e) (inr m) =
                subst (LowLeast K.algebra card _ w s) (sym (i.missed s w ls lw (λ b. absurd (omega (arith, b.2)))))
                (at_level s w _ _ _ (ap (λ k. min w (max k s)) (level_over j g s u) ∙ omega (arith, e, m) ∙ ap (λ k. min w (max k s)) (sym (level_under j (g + 1) s (omega arith)))) (S.high s w ls lw ne h l))
            high s w ls lw ne h l (inr u) (inl e) (inl m) =
                subst (λ s. LowLeast K.algebra card (min w (max (level j (g + 1) s) s)) w s (least_in K n later s w)) (sym e)
                (at_level g w (suc j) _ _ (omega (arith, m, below) ∙ ap (λ k. min w (max k g)) (sym (level_under j (g + 1) g (omega arith))))
                (fold_step L card j w g _ _ _ _ (calm j lj) (goal_low w (omega arith) lw) (pivot_low w m lw) (goal_low j (omega arith) lj)
                (either_turned L _ _ _ _ (i.hit g w (omega arith) lw (omega arith, omega arith, omega arith, lw)))))

    module _ (goals : FormatSet) (goal : ℕ) (inside : goal < n) (is_goal : holds goals goal ≡ true) (entry : Table C) (F : ThirdFrom K n card entry goals goal) where
      -- the third stage for the goal, with the formats from v on gone by
      pub record ThirdAt (now : Table C) (v : ℕ) : Type 0 where
        pub rows : (s w : ℕ) → s < n → w < n → (s ≡ goal → ⊥) → least_in K n now s w ≡ least_in K n entry s w
        pub done : (w : ℕ) → v ≤ w → w < n → (w ≡ goal → ⊥) → Least K.algebra card w goal (least_in K n now goal w)
        pub waits : (w : ℕ) → w < v → w < n → (w ≡ goal → ⊥) →
            LeastOf K.algebra (ByWay K.algebra (least_in K n entry goal w) (λ j. least_in K n entry j w) (λ j. least_in K n now goal j) goal v n) (least_in K n now goal w)

      pub third_start : ThirdAt entry n
      third_start = record {
        rows = λ s w ls lw ne. refl;
        done = λ w l m. absurd (omega arith);
        waits = λ w l m ne. ways_none L (least_in K n entry goal w) (λ j. least_in K n entry j w) (λ j. least_in K n entry goal j) goal n;
      }

      -- a cost to a higher format, before its row was a goal's or after
      there : (w j : ℕ) → w < j → j < n → LowLeast K.algebra card w w j (least_in K n entry j w) ⊎ Least K.algebra card w j (least_in K n entry j w)
      there w j l lj = elim (F j w lj (omega arith) (λ e. absurd (omega arith)) (inl l)) [ inl a ↦ inl a | inr b ↦ inr b.1 ]

      goal_end : (w : ℕ) → w < n → (w ≡ goal → ⊥) → LowLeast K.algebra card w w goal (least_in K n entry goal w)
      goal_end w lw ne = elim (F goal w inside lw (λ e. ne (sym e)) (inr is_goal)) [ inl a ↦ a | inr b ↦ absurd (omega (arith, b.0)) ]

      module _ (now : Table C) (j : ℕ) (lj : j < n) (T : ThirdAt now (j + 1)) where
        -- what the goal has at the next format is its own
        next : (j ≡ goal → ⊥) → Least K.algebra card j goal (least_in K n now goal j)
        next ne =
            third_cell L card n calm sound j goal (least_in K n entry goal j) (λ i. least_in K n entry i j) (λ i. least_in K n now goal i) _ ne (goal_end j lj ne)
            (λ i l m d. (there j i l m, T.done i (omega arith) m d)) (T.waits j (omega arith) lj ne)

        pub third_near : (j ≡ goal → ⊥) → NearBack K n goal j now
        third_near ne = (
          near_least K L n card sound j goal _ calm (next ne),
          λ w l. near w l (there w j l lj),
        )
          where
            near : (w : ℕ) → w < j → LowLeast K.algebra card w w j (least_in K n entry j w) ⊎ Least K.algebra card w j (least_in K n entry j w) → Near K.algebra n (least_in K n now j w)
            near w l (inl a) = subst (Near K.algebra n) (sym (T.rows j w lj (omega arith) ne)) (near_low K L n card sound w w j _ (omega arith) (λ k m. calm k (omega arith)) a)
            near w l (inr a) = subst (Near K.algebra n) (sym (T.rows j w lj (omega arith) ne)) (near_least K L n card sound w j _ calm a)

        pub third_more : (j ≡ goal → ⊥) → (later : Table C) → Improved K n j (Block goal (goal + 1) 0 j) now later → ThirdAt later j
        third_more ne later i = record {
          rows = λ s w ls lw d. i.missed s w ls lw (λ b. d (omega (arith, b.0, b.1))) ∙ T.rows s w ls lw d;
          done = λ w l m d. subst (Least K.algebra card w goal) (sym (still w l m)) (own w l m d (cases_eq w j));
          waits = λ w l m d. (
              let o = least_in K n entry goal w in
              let to : ℕ → Option K.algebra.Value = λ j. least_in K n entry j w in
              let hit = subst (λ q. LeastOf K.algebra (Either K.algebra (least_in K n now goal w) (least_in K n now goal j) q) (least_in K n later goal w)) (T.rows j w lj m ne) (i.hit goal w inside m (omega arith, omega arith, omega arith, l)) in
              ways_alike L o _ to (λ j. least_in K n now goal j) to (λ j. least_in K n later goal j) goal j n (λ k a b e. (refl, sym (still k a b)))
              (ways_more L o to (λ j. least_in K n now goal j) goal n j _ _ lj ne (T.waits w (omega arith) m d) (either_turned L _ _ _ _ hit))
              );
        }
          where
            still : (w : ℕ) → j ≤ w → w < n → least_in K n later goal w ≡ least_in K n now goal w
            still w l m = i.missed goal w inside m (λ b. absurd (omega (arith, b.3, l)))

            own : (w : ℕ) → j ≤ w → w < n → (w ≡ goal → ⊥) → (w ≡ j) ⊎ (w ≡ j → ⊥) → Least K.algebra card w goal (least_in K n now goal w)
            own w l m d (inl e) = subst (λ w. Least K.algebra card w goal (least_in K n now goal w)) (sym e) (next ne)
            own w l m d (inr ne) = T.done w (omega (arith, l, ne)) m d

        pub third_skip : j ≡ goal → ThirdAt now j
        third_skip e = record {
          rows = T.rows;
          done = λ w l m d. T.done w (omega (arith, l, d, e)) m d;
          waits = λ w l m d. ways_skip L _ _ _ goal n j _ e (T.waits w (omega arith) m d);
        }

      -- the goal's own cell is set to the unit
      module _ (now : Table C) (T : ThirdAt now 0) (roomy : Roomy K n now) (c : Cell C) (unit : K.value c.cost ≡ K.algebra.unit) (own : FormatSet) (has : holds own goal ≡ true)
          (others : (f : ℕ) → (f ≡ goal → ⊥) → holds own f ≡ holds (get_or now.there goal no_formats) f) where
        abbrev exit : Table C
        exit = tabled (set now.cells (goal * n + goal) c) (set now.there goal own)

        own_is : get_or (set now.there goal own) goal no_formats ≡ own
        own_is = get_or-set_same now.there goal own no_formats (omega (arith, roomy.there, roomy.few, inside))

        elsewhere : (s w : ℕ) → s < n → w < n → ((s ≡ goal) × (w ≡ goal) → ⊥) → least_in K n exit s w ≡ least_in K n now s w
        elsewhere s w ls lw ne =
            least_alike K n exit now s w s w (sets (cases_eq s goal))
            (meaning_other K now.cells (goal * n + goal) (s * n + w) c (λ e. ne (place_same n s w goal goal lw inside e)))
          where
            sets : (s ≡ goal) ⊎ (s ≡ goal → ⊥) → holds (get_or (set now.there goal own) s no_formats) w ≡ holds (get_or now.there s no_formats) w
            sets (inl e) = subst (λ s. ((s ≡ goal) × (w ≡ goal) → ⊥) → holds (get_or (set now.there goal own) s no_formats) w ≡ holds (get_or now.there s no_formats) w) (sym e)
                (λ d. ap (λ r. holds r w) own_is ∙ others w (λ f. d (refl, f))) ne
            sets (inr d) = ap (λ r. holds r w) (get_or-set_other now.there goal s own no_formats d)

        own_cell : least_in K n exit goal goal ≡ Some K.algebra.unit
        own_cell =
            least_there K n exit goal goal (ap (λ r. holds r goal) own_is ∙ has) ∙
            ap Some (meaning_same K now.cells (goal * n + goal) c (omega (arith, place_lt n goal goal inside inside, roomy.cells)) ∙ unit)

        pub third_done : ThirdDone K n card exit goal
        third_done v l = go (cases_eq v goal)
          where
            go : (v ≡ goal) ⊎ (v ≡ goal → ⊥) → Least K.algebra card v goal (least_in K n exit goal v)
            go (inl e) =
                subst (λ v. Least K.algebra card v goal (least_in K n exit goal v)) (sym e)
                (subst (Least K.algebra card goal goal) (sym own_cell) (unit_is_least L card (no_hidden_loop L n card sound calm) goal))
            go (inr ne) = subst (Least K.algebra card v goal) (sym (elsewhere goal v inside l (λ e. ne e.1))) (T.done v (omega arith) l ne)

        -- the row of another goal stays
        pub third_kept : (s : ℕ) → s < n → (s ≡ goal → ⊥) → ThirdDone K n card entry s → ThirdDone K n card exit s
        third_kept s ls ne least v l =
            subst (Least K.algebra card v s) (sym (elsewhere s v ls l (λ e. ne e.0) ∙ T.rows s v ls l ne)) (least v l)

        pub third_from : ThirdFrom K n card exit goals (suc goal)
        third_from s w ls lw ne h = go (cases_eq s goal)
          where
            go : (s ≡ goal) ⊎ (s ≡ goal → ⊥) → LowLeast K.algebra card w w s (least_in K n exit s w) ⊎ ((s < suc goal) × Least K.algebra card w s (least_in K n exit s w))
            go (inl e) = inr (omega arith, subst (λ s. Least K.algebra card w s (least_in K n exit s w)) (sym e) (third_done w lw))
            go (inr d) =
                let same = elsewhere s w ls lw (λ e. d e.0) ∙ T.rows s w ls lw d in
                elim (F s w ls lw ne h) [
                  | inl a ↦ inl (subst (LowLeast K.algebra card w w s) (sym same) a)
                  | inr b ↦ inr (omega (arith, b.0), subst (Least K.algebra card w s) (sym same) b.1)
                ]

module _ {C : Type 0} (K : Kind C) (n : ℕ) (card : ℕ → ℕ → Option K.algebra.Value) where
  -- a table that is turned over has the costs of the first stage the other way round
  pub turned_done : (t u : Table C) → ((s w : ℕ) → s < n → w < n → least_in K n u s w ≡ least_in K n t w s) → FirstDone K n card t → TurnedDone K n card u
  turned_done t u turned first s w ls lw ne =
      let e : min w s ≡ min s w = omega arith in
      subst (λ l. LowLeast K.algebra card l w s (least_in K n u s w)) e (subst (LowLeast K.algebra card (min w s) w s) (sym (turned s w ls lw)) (first w s lw ls (λ d. ne (sym d))))

  -- a format that is no goal is passed by
  pub third_passes : (t : Table C) (goals : FormatSet) (g : ℕ) → ThirdFrom K n card t goals g → ThirdFrom K n card t goals (suc g)
  third_passes t goals g F s w ls lw ne h = elim (F s w ls lw ne h) [ inl a ↦ inl a | inr b ↦ inr (omega (arith, b.0), b.1) ]
