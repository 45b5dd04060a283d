-- What every fork over some cards is answered. Labels show how little any walk costs from the input to a format and from a format to an
-- output: a card never leads to less than the label beyond it. So they show which split is the cheapest, and there is one alone.
use Rattle.std.proofs.Common.{◌≡◌, ℕ, Bool, true, false, not, ◌&&◌, ◌||◌, T, ltb, List, [], ◌∷◌, length, get_or, map, is_some, Some, None, Option, Ok, Err, sym, refl, ap, ◌∙◌, subst, inl, inr, ◌⊎◌, arith, ℤ, pos, negsuc}
use Rattle.std.specs.List.{Contains, AllByRecursion}
use Rattle.std.proofs.lemmas.Bool.{cases_Bool, cases_lt, cases_order, false≢true, and_parts, lt-ltb, not-true, or_cases}
use Rattle.std.proofs.lemmas.List.{get_or_past}
use Rattle.costs.specs.declared.Cost.{Ghosts as Kind}
use Rattle.costs.specs.Algebra.{Algebra, Lawful}
use Rattle.costs.specs.Delay.{delay}
use Rattle.costs.specs.DelayLaws.{delay_lawful}
use Rattle.costs.specs.Depth.{depth, bits}
use Rattle.costs.specs.DepthLaws.{depth_lawful, same_bits}
use Rattle.costs.specs.Kinds.{delays}
use Rattle.registers.specs.House.{house}
use Rattle.registers.specs.Meaning.{Meaning, meant, standing}
use Rattle.walks.specs.Walk.{path, Walk, WalkCosts, Least, Gains, cost}
use Rattle.walks.proofs.Least.{AtMost, Serves, at_most_both, at_most_joined, at_most_self, at_most_trans}
use Rattle.walks.proofs.Runs.{Runs, join_unit, one_from, one_or_path, path_from, runs_cost, runs_join, to_runs}
use Rattle.bay.specs.Plain.{from_to}
use Rattle.bay.specs.Routes.{HasLeastChain, LoopIn}
use Rattle.bay.specs.Sheet.{row_at, row_of}
use Rattle.bay.specs.Splits.{Cheapest, ForkAnswer, ForkGranted, HasCheapestSplit, NoWalk, SplitCosts}
use Rattle.bay.specs.declared.fault.BayFault.TheVariants.{Loop, NoSplit}
use Rattle.bay.proofs.BothWays.{looped_gains}
use Rattle.bay.proofs.SplitSteps.{under_least}
use Rattle.worked.specs.Forks.{ForkCase, ForkMade, SplitAs, AlwaysSplit, AlwaysRefusedFor, ForkCases, crossroads, two_crossroads, deep_detour}
use Rattle.worked.specs.Routes.{Stand}
use Rattle.worked.specs.Walks.{cards_of, free_pair, deeper_way}
use Rattle.worked.proofs.CaseProofs.{Pass, every_below, every_below_at, every_card, list_passes, passes, table_passes, every_place, worked_cases, barred_is_even, depth_is_even, heights, no_gain, rising}
use Rattle.worked.proofs.RouteProofs.{open_set, barred_set, pair_set, elsewhere_set, deeper_set}
use Rattle.worked.proofs.LegProofs.{CardSet, Tested, delay_test, depth_test, every_chain_from, least_chains, listed, same_cards, some_register, stays, told_or_worse}

-- Costs between which the test of undercutting decides
module _ {C : Type 0} {K : Kind C} (t : Tested K) (L : Lawful K.algebra) (shows : (x y : K.algebra.Value) → K.algebra.Under x y → t.under x y ≡ true) where
  not_under : (x y : K.algebra.Value) → not (t.under y x) ≡ true → AtMost K.algebra x y
  not_under x y h u = false≢true (sym (not-true (t.under y x) h) ∙ shows y x u)

  -- from a label to the one beyond a card, and from the one beyond back
  abbrev pub on : Option K.algebra.Value → Option K.algebra.Value → K.algebra.Value → Bool
  on None y c = true
  on (Some x) None c = false
  on (Some x) (Some y) c = not (t.under (K.algebra.join x c) y)

  abbrev pub back_by : Option K.algebra.Value → Option K.algebra.Value → K.algebra.Value → Bool
  back_by x None c = true
  back_by None (Some y) c = false
  back_by (Some x) (Some y) c = not (t.under (K.algebra.join c y) x)

  on_card : (o p : Option K.algebra.Value) (c x : K.algebra.Value) → on o p c ≡ true → Serves K.algebra o x → Serves K.algebra p (K.algebra.join x c)
  on_card None p c x h (z, e, l) = absurd (false≢true (ap is_some e))
  on_card (Some y) None c x h s = absurd (false≢true h)
  on_card (Some y) (Some z) c x h (v, e, l) =
      let same : y ≡ v = cc in
      (z, refl, at_most_trans L z _ _ (not_under z (K.algebra.join y c) h) (at_most_joined L y x c c (subst (λ w. AtMost K.algebra w x) (sym same) l) (at_most_self L c)))

  back_card : (o p : Option K.algebra.Value) (c x : K.algebra.Value) → back_by o p c ≡ true → Serves K.algebra p x → Serves K.algebra o (K.algebra.join c x)
  back_card o None c x h (z, e, l) = absurd (false≢true (ap is_some e))
  back_card None (Some y) c x h s = absurd (false≢true h)
  back_card (Some z) (Some y) c x h (v, e, l) =
      let same : y ≡ v = cc in
      (z, refl, at_most_trans L z _ _ (not_under z (K.algebra.join c y) h) (at_most_joined L c c y x (at_most_self L c) (subst (λ w. AtMost K.algebra w x) (sym same) l)))

  module _ (card : ℕ → ℕ → Option K.algebra.Value) where
    at_card : (f : ℕ → ℕ → K.algebra.Value → Bool) → Pass card f → (a b : ℕ) (c : K.algebra.Value) → card a b ≡ Some c → f a b c ≡ true
    at_card f each a b c e = subst (λ o. passes (f a b) o ≡ true) e (each a b)

    module _ (label : ℕ → Option K.algebra.Value) where
      on_runs : Pass card (λ a b c. on (label a) (label b) c) → (s : ℕ) (ms : List ℕ) (v : ℕ) (y x : K.algebra.Value) → Runs K.algebra card s ms v y → Serves K.algebra (label s) x →
          Serves K.algebra (label v) (K.algebra.join x y)
      on_runs each s [] v y x r h = on_card (label s) (label v) y x (at_card _ each s v y r) h
      on_runs each s (m ∷ ms) v y x (a, b, first, rest, e) h =
          subst (Serves K.algebra (label v)) (L.assoc x a b ∙ ap (K.algebra.join x) (sym e))
          (on_runs each m ms v b (K.algebra.join x a) rest (on_card (label s) (label m) a x (at_card _ each s m a first) h))

      back_runs : Pass card (λ a b c. back_by (label a) (label b) c) → (s : ℕ) (ms : List ℕ) (v : ℕ) (y x : K.algebra.Value) → Runs K.algebra card s ms v y → Serves K.algebra (label v) x →
          Serves K.algebra (label s) (K.algebra.join y x)
      back_runs each s [] v y x r h = back_card (label s) (label v) y x (at_card _ each s v y r) h
      back_runs each s (m ∷ ms) v y x (a, b, first, rest, e) h =
          subst (Serves K.algebra (label s)) (sym (ap (λ z. K.algebra.join z x) e ∙ L.assoc a b x))
          (back_card (label s) (label m) a (K.algebra.join b x) (at_card _ each s m a first) (back_runs each m ms v b x rest h))

      -- a walk costs at least the label of its end, or of its start
      on_walk : Pass card (λ a b c. on (label a) (label b) c) → (s v : ℕ) (y : K.algebra.Value) → label s ≡ Some K.algebra.unit → WalkCosts K.algebra card s v y → Serves K.algebra (label v) y
      on_walk each s v y e (fs, ends, walk, costs) = go (one_or_path s v fs ends)
        where
          go : ((s ≡ v) × (fs ≡ s ∷ [])) ⊎ ((ms : List ℕ) × (fs ≡ path s ms v)) → Serves K.algebra (label v) y
          go (inl (same, is)) =
              (K.algebra.unit, ap label (sym same) ∙ e, subst (AtMost K.algebra K.algebra.unit) (sym (ap (cost K.algebra card) is) ∙ costs) (at_most_self L K.algebra.unit))
          go (inr (ms, is)) =
              let r = to_runs L card s ms v (rw is at walk) in
              subst (Serves K.algebra (label v)) (L.neutral _ ∙ ap (cost K.algebra card) (sym is) ∙ costs)
              (on_runs each s ms v _ K.algebra.unit r (K.algebra.unit, e, at_most_self L K.algebra.unit))

      back_walk : Pass card (λ a b c. back_by (label a) (label b) c) → (s v : ℕ) (y : K.algebra.Value) → label v ≡ Some K.algebra.unit → WalkCosts K.algebra card s v y → Serves K.algebra (label s) y
      back_walk each s v y e (fs, ends, walk, costs) = go (one_or_path s v fs ends)
        where
          go : ((s ≡ v) × (fs ≡ s ∷ [])) ⊎ ((ms : List ℕ) × (fs ≡ path s ms v)) → Serves K.algebra (label s) y
          go (inl (same, is)) =
              (K.algebra.unit, ap label same ∙ e, subst (AtMost K.algebra K.algebra.unit) (sym (ap (cost K.algebra card) is) ∙ costs) (at_most_self L K.algebra.unit))
          go (inr (ms, is)) =
              let r = to_runs L card s ms v (rw is at walk) in
              subst (Serves K.algebra (label s)) (join_unit L card _ ∙ ap (cost K.algebra card) (sym is) ∙ costs)
              (back_runs each s ms v _ K.algebra.unit r (K.algebra.unit, e, at_most_self L K.algebra.unit))

    -- three labels for each format: from the input on, to the first output, and to the second
    pub record Labels (input first second : ℕ) : Type 0 where
      pub from_input : List (Option K.algebra.Value)
      pub to_first : List (Option K.algebra.Value)
      pub to_second : List (Option K.algebra.Value)
      pub starts : get_or from_input input None ≡ Some K.algebra.unit
      pub ends : get_or to_first first None ≡ Some K.algebra.unit
      pub ends_too : get_or to_second second None ≡ Some K.algebra.unit
      pub leads : Pass card (λ a b c. on (get_or from_input a None) (get_or from_input b None) c)
      pub reaches : Pass card (λ a b c. back_by (get_or to_first a None) (get_or to_first b None) c)
      pub reaches_too : Pass card (λ a b c. back_by (get_or to_second a None) (get_or to_second b None) c)

    module _ (input first second m : ℕ) (x : K.algebra.Value) where
      -- no total of a format's labels undercuts x, and x undercuts it where the format is lower than m
      abbrev pub fine : ℕ → Option K.algebra.Value → Option K.algebra.Value → Option K.algebra.Value → Bool
      fine k (Some a) (Some b) (Some c) = let y = K.algebra.join (K.algebra.join a b) c in not (t.under y x) && (not (ltb k m) || t.under x y)
      fine k o p q = true

      module _ (l : Labels input first second) where
        abbrev pub fine_at : ℕ → Bool
        fine_at k = fine k (get_or l.from_input k None) (get_or l.to_first k None) (get_or l.to_second k None)

        -- each total is at least that of the labels
        Bounded : ℕ → K.algebra.Value → Type 0
        Bounded k y =
            (a : K.algebra.Value) × (b : K.algebra.Value) × (c : K.algebra.Value) × (get_or l.from_input k None ≡ Some a) × (get_or l.to_first k None ≡ Some b) ×
            (get_or l.to_second k None ≡ Some c) × AtMost K.algebra (K.algebra.join (K.algebra.join a b) c) y

        bounded : (k : ℕ) (y : K.algebra.Value) → SplitCosts K.algebra card input first second k y → Bounded k y
        unfolding Bounded
        bounded k y (p, q, r, stem, branch, other, e) =
            let (a, ea, la) = on_walk (λ v. get_or l.from_input v None) l.leads input k p l.starts stem in
            let (b, eb, lb) = back_walk (λ v. get_or l.to_first v None) l.reaches k first q l.ends branch in
            let (c, ec, lc) = back_walk (λ v. get_or l.to_second v None) l.reaches_too k second r l.ends_too other in
            (a, b, c, ea, eb, ec, subst (AtMost K.algebra (K.algebra.join (K.algebra.join a b) c)) (sym e) (at_most_joined L _ _ _ _ (at_most_joined L a p b q la lb) lc))

        module _ (each : every_below (length l.from_input) fine_at ≡ true) where
          fine_for : (k : ℕ) (a : K.algebra.Value) → get_or l.from_input k None ≡ Some a → fine_at k ≡ true
          fine_for k a e = elim (cases_lt k (length l.from_input)) [
            | inl less ↦ every_below_at (length l.from_input) fine_at each k less
            | inr more ↦ absurd (false≢true (ap is_some (sym (get_or_past l.from_input k None more) ∙ e)))
          ]

          tested : (k : ℕ) (a b c : K.algebra.Value) → get_or l.from_input k None ≡ Some a → get_or l.to_first k None ≡ Some b → get_or l.to_second k None ≡ Some c →
              fine k (Some a) (Some b) (Some c) ≡ true
          tested k a b c ea eb ec = (λ i. fine k (sym ea i) (sym eb i) (sym ec i)) ∙ fine_for k a ea

          pub cheapest_by : SplitCosts K.algebra card input first second m x → Cheapest K.algebra card input first second m x
          unfolding Bounded
          cheapest_by total = record {
            total = total;
            least = λ k y s.
                let (a, b, c, ea, eb, ec, low) = bounded k y s in
                at_most_trans L x (K.algebra.join (K.algebra.join a b) c) y (not_under x _ (and_parts _ _ (tested k a b c ea eb ec)).0) low;
            lowest = λ k y less s.
                let (a, b, c, ea, eb, ec, low) = bounded k y s in
                let sum = K.algebra.join (K.algebra.join a b) c in
                let under : K.algebra.Under x sum = elim (or_cases (not (ltb k m)) (t.under x sum) (and_parts _ _ (tested k a b c ea eb ec)).1) [
                  | inl no_less ↦ absurd (false≢true (sym (not-true (ltb k m) no_less) ∙ lt-ltb k m less))
                  | inr u ↦ t.undercuts x sum u
                ] in
                under_least L x sum y under low;
          }

-- labels whose cards are tested one by one
module _ {C : Type 0} {K : Kind C} (t : Tested K) (L : Lawful K.algebra) (shows : (x y : K.algebra.Value) → K.algebra.Under x y → t.under x y ≡ true) (from first second : List (Option K.algebra.Value)) where
  abbrev leads_on : ℕ → ℕ → K.algebra.Value → Bool
  leads_on a b c = on t L shows (get_or from a None) (get_or from b None) c

  abbrev leads_back : List (Option K.algebra.Value) → ℕ → ℕ → K.algebra.Value → Bool
  leads_back label a b c = back_by t L shows (get_or label a None) (get_or label b None) c

  module _ (i a b : ℕ) (starts : get_or from i None ≡ Some K.algebra.unit) (ends : get_or first a None ≡ Some K.algebra.unit) (ends_too : get_or second b None ≡ Some K.algebra.unit) where
    abbrev labels_by : (card : ℕ → ℕ → Option K.algebra.Value) → Pass card leads_on → Pass card (leads_back first) → Pass card (leads_back second) → Labels t L shows card i a b
    labels_by card p q r = record { from_input = from; to_first = first; to_second = second; starts = starts; ends = ends; ends_too = ends_too; leads = p; reaches = q; reaches_too = r }

    abbrev labels_of_list : (ls : List (ℕ × ℕ × K.algebra.Value)) → every_card leads_on ls ≡ true → every_card (leads_back first) ls ≡ true → every_card (leads_back second) ls ≡ true → Labels t L shows (cards_of ls) i a b
    labels_of_list ls p q r = labels_by (cards_of ls) (list_passes leads_on ls p) (list_passes (leads_back first) ls q) (list_passes (leads_back second) ls r)

    abbrev labels_of_table : (m : Meaning K.algebra.Value) → every_place leads_on m ≡ true → every_place (leads_back first) m ≡ true → every_place (leads_back second) m ≡ true → Labels t L shows (standing m) i a b
    labels_of_table m p q r = labels_by (standing m) (table_passes leads_on m p) (table_passes (leads_back first) m q) (table_passes (leads_back second) m r)

-- there is one cheapest split alone
cheapest_alone : {A : Algebra} → Lawful A → (card : ℕ → ℕ → Option A.Value) (input first second m k : ℕ) (x y : A.Value) → Cheapest A card input first second m x → Cheapest A card input first second k y → (k ≡ m) × (y ≡ x)
cheapest_alone L card input first second m k x y p q = (
  elim (cases_order k m) [
    | inl e ↦ e
    | inr (inl less) ↦ absurd (q.least m x p.total (p.lowest k y less q.total))
    | inr (inr more) ↦ absurd (p.least k y q.total (q.lowest m x more p.total))
  ],
  at_most_both L y x (q.least m x p.total) (p.least k y q.total),
)

-- one walk after the other
walk_then : {A : Algebra} → Lawful A → (card : ℕ → ℕ → Option A.Value) (s m t : ℕ) (a b : A.Value) → WalkCosts A card s m a → WalkCosts A card m t b → (x : A.Value) × WalkCosts A card s t x
walk_then {A} L card s m t a b p q = go (one_or_path s m p.0 p.1) (one_or_path m t q.0 q.1)
  where
    go : ((s ≡ m) × (p.0 ≡ s ∷ [])) ⊎ ((ms : List ℕ) × (p.0 ≡ path s ms m)) → ((m ≡ t) × (q.0 ≡ m ∷ [])) ⊎ ((ns : List ℕ) × (q.0 ≡ path m ns t)) → (x : A.Value) × WalkCosts A card s t x
    go (inl (same, is)) after = (b, subst (λ v. WalkCosts A card v t b) (sym same) q)
    go (inr front) (inl (same, is)) = (a, subst (λ v. WalkCosts A card s v a) same p)
    go (inr (ms, is)) (inr (ns, also)) =
        let r = runs_join L card s ms m ns t _ _ (to_runs L card s ms m (rw is at p.2)) (to_runs L card m ns t (rw also at q.2)) in
        (_, runs_cost L card s _ t _ r)

-- a walk of least cost, and the chains of that cost
pub record Found {A : Algebra} (s : CardSet A) (a b : ℕ) : Type 0 where
  pub cost : A.Value
  pub walk : WalkCosts A s.card a b cost
  pub rows : List (List ℕ)
  pub told : (row : List ℕ) (paid : A.Value) → HasLeastChain A s.card (from_to a b) row paid → Contains (map row_of rows) row

module _ {C : Type 0} {K : Kind C} (t : Tested K) (s : CardSet K.algebra) where
  -- by way of ms, or by another chain
  abbrev by_way : (a b : ℕ) (x : K.algebra.Value) (ms : List ℕ) (others : List (List ℕ)) → Walk K.algebra s.card (path a ms b) →
      AllByRecursion (λ fs. cost K.algebra s.card fs ≡ x) (path a ms b ∷ others) → every_chain_from s a b (told_or_worse t s x (path a ms b ∷ others)) ≡ true → Found s a b
  by_way a b x ms others walk costs each = record {
    cost = x;
    walk = (path a ms b, path_from a ms b, walk, costs.0);
    rows = path a ms b ∷ others;
    told = λ row paid h. ((least_chains t s a b x ms others walk costs each).1 row paid (inr h)).1;
  }

  -- the format alone
  abbrev alone : (a : ℕ) (x : K.algebra.Value) → K.algebra.unit ≡ x → every_chain_from s a a (told_or_worse t s x ((a ∷ []) ∷ [])) ≡ true → Found s a a
  alone a x e each = record {
    cost = x;
    walk = (a ∷ [], one_from a, tt, e);
    rows = (a ∷ []) ∷ [];
    told = λ row paid h. ((stays t s a x e each).1 row paid (inr h)).1;
  }

module _ {C : Type 0} {K : Kind C} (t : Tested K) (L : Lawful K.algebra) (s : CardSet K.algebra) where
  same : (m : Meaning K.algebra.Value) → Stand K s.card m → standing m ≡ s.card
  same m stand = same_cards K s (record { register = m; legs = [] }) stand

  -- a loop is found where a closed walk gains
  pub fork_looped : Gains K.algebra s.card → (input first second : ℕ) → AlwaysRefusedFor K s.card Loop input first second
  fork_looped gains i a b = record { some = some_register K s; each = λ m stand f. go m stand f f.answered }
    where
      go : (m : Meaning K.algebra.Value) → Stand K s.card m → (f : ForkMade K m i a b) → ForkAnswer K m i a b f.before f.after f.answer → f.answer ≡ Err Loop
      go m stand f (inl away) = absurd (false≢true (ap is_some (sym f.roomy ∙ away.holds)))
      go m stand f (inr (inl looped)) = looped.answers
      go m stand f (inr (inr (inl cut))) = absurd (cut.no_loop (subst (Gains K.algebra) (sym (same m stand)) gains))
      go m stand f (inr (inr (inr granted))) = absurd (granted.no_loop (subst (Gains K.algebra) (sym (same m stand)) gains))

  module _ (even : Gains K.algebra s.card → ⊥) where
    no_loop : (m : Meaning K.algebra.Value) → Stand K s.card m → (row : List ℕ) → LoopIn K.algebra (standing m) row → ⊥
    no_loop m stand row loop = even (subst (Gains K.algebra) (same m stand) (looped_gains K.algebra (standing m) row loop))

    -- no split is found where no walk leads to some output
    pub fork_unreached : (input first second : ℕ) → Least K.algebra s.card input first None ⊎ Least K.algebra s.card input second None → AlwaysRefusedFor K s.card NoSplit input first second
    fork_unreached i a b none = record { some = some_register K s; each = λ m stand f. go m stand f f.answered }
      where
        no_total : (m : Meaning K.algebra.Value) → Stand K s.card m → (k : ℕ) (x : K.algebra.Value) → SplitCosts K.algebra (standing m) i a b k x → ⊥
        no_total m stand k x total =
            let (p, q, r, stem, branch, other, e) = subst (λ f. SplitCosts K.algebra f i a b k x) (same m stand) total in
            elim none [
              | inl never ↦ let (y, w) = walk_then L s.card i k a p q stem branch in never y w
              | inr never ↦ let (y, w) = walk_then L s.card i k b p r stem other in never y w
            ]

        go : (m : Meaning K.algebra.Value) → Stand K s.card m → (f : ForkMade K m i a b) → ForkAnswer K m i a b f.before f.after f.answer → f.answer ≡ Err NoSplit
        go m stand f (inl away) = absurd (false≢true (ap is_some (sym f.roomy ∙ away.holds)))
        go m stand f (inr (inl looped)) = absurd (no_loop m stand _ looped.loop)
        go m stand f (inr (inr (inl cut))) = cut.answers
        go m stand f (inr (inr (inr granted))) = absurd (no_total m stand granted.split _ (granted.found t.some).cheapest.total)

    -- the split is found, and each row has one of the chains
    module _ (i m a b : ℕ) (x : K.algebra.Value) (stem : Found s i m) (branch : Found s m a) (other : Found s m b) (best : Cheapest K.algebra s.card i a b m x) where
      abbrev case : ForkCase K.algebra.Value
      case = record { input = i; first = a; second = b; split = m; total = x; to_split = stem.rows; to_first = branch.rows; to_second = other.rows }

      reached : (card : ℕ → ℕ → Option K.algebra.Value) → s.card ≡ card → NoWalk K.algebra card i a ⊎ NoWalk K.algebra card i b → ⊥
      reached card e (inl never) =
          let (y, w) = walk_then L s.card i m a _ _ stem.walk branch.walk in
          let (fs, ends, walk, _) = subst (λ f. WalkCosts K.algebra f i a y) e w in never fs ends walk
      reached card e (inr never) =
          let (y, w) = walk_then L s.card i m b _ _ stem.walk other.walk in
          let (fs, ends, walk, _) = subst (λ f. WalkCosts K.algebra f i b y) e w in never fs ends walk

      split_as : (r : Meaning K.algebra.Value) → Stand K s.card r → (f : ForkMade K r i a b) → ForkGranted K r i a b f.before f.after f.answer → SplitAs K case r f
      split_as r stand f granted =
          let k = granted.split in
          let row : ℕ → List ℕ = row_at f.after.chains in
          let had : (d : C) → HasCheapestSplit K.algebra s.card i a b k row (K.value (get_or f.after.costs 0 d)) =
          λ d. subst (λ g. HasCheapestSplit K.algebra g i a b k row (K.value (get_or f.after.costs 0 d))) (same r stand) (granted.found d) in
          let is : (d : C) → (k ≡ m) × (K.value (get_or f.after.costs 0 d) ≡ x) = λ d. cheapest_alone L s.card i a b m k x _ best (had d).cheapest in
          let e : k ≡ m = (is t.some).0 in
          let h = had t.some in
          record {
            answer = granted.answers ∙ ap Ok e;
            total = λ d. (is d).1;
            to_split = stem.told (row 0) h.stem (subst (λ v. HasLeastChain K.algebra s.card (from_to i v) (row 0) h.stem) e h.to_split);
            to_first = branch.told (row 1) h.branch (subst (λ v. HasLeastChain K.algebra s.card (from_to v a) (row 1) h.branch) e h.to_first);
            to_second = other.told (row 2) h.other (subst (λ v. HasLeastChain K.algebra s.card (from_to v b) (row 2) h.other) e h.to_second);
          }

      pub fork_split : AlwaysSplit K s.card case
      fork_split = record { some = some_register K s; each = λ r stand f. go r stand f f.answered }
        where
          go : (r : Meaning K.algebra.Value) → Stand K s.card r → (f : ForkMade K r i a b) → ForkAnswer K r i a b f.before f.after f.answer → SplitAs K case r f
          go r stand f (inl away) = absurd (false≢true (ap is_some (sym f.roomy ∙ away.holds)))
          go r stand f (inr (inl looped)) = absurd (no_loop r stand _ looped.loop)
          go r stand f (inr (inr (inl cut))) = absurd (reached (standing r) (sym (same r stand)) cut.cut_off)
          go r stand f (inr (inr (inr granted))) = split_as r stand f granted

shows_delay : (x y : delay.Value) → delay.Under x y → delay_test.under x y ≡ true
shows_delay x y u = elim (cases_Bool (delay_test.under x y)) [ inl e ↦ e | inr e ↦ absurd (subst T e u.lt) ]

shows_depth : (x y : depth.Value) → depth.Under x y → depth_test.under x y ≡ true
shows_depth x y u = lt-ltb y.count x.count u

-- the split at m, by labels and by a chain for each row
abbrev split_by : {C : Type 0} {K : Kind C} (t : Tested K) (L : Lawful K.algebra) (shows : (x y : K.algebra.Value) → K.algebra.Under x y → t.under x y ≡ true) (s : CardSet K.algebra) → (Gains K.algebra s.card → ⊥) →
    (i m a b : ℕ) (x : K.algebra.Value) (labels : Labels t L shows s.card i a b) → every_below (length labels.from_input) (fine_at t L shows s.card i a b m x labels) ≡ true →
    (stem : Found s i m) (branch : Found s m a) (other : Found s m b) → x ≡ K.algebra.join (K.algebra.join stem.cost branch.cost) other.cost →
    AlwaysSplit K s.card (record { input = i; first = a; second = b; split = m; total = x; to_split = stem.rows; to_first = branch.rows; to_second = other.rows })
split_by t L shows s even i m a b x labels each stem branch other e =
    fork_split t L s even i m a b x stem branch other
    (cheapest_by t L shows s.card i a b m x labels each (stem.cost, branch.cost, other.cost, stem.walk, branch.walk, other.walk, e))

abbrev crossroads_set : CardSet delay
crossroads_set = listed 4 (omega arith, omega arith) crossroads refl

abbrev two_set : CardSet delay
two_set = listed 5 (omega arith, omega arith) two_crossroads refl

abbrev detour_set : CardSet depth
detour_set = listed 3 (omega arith, omega arith) deep_detour refl

crossroads_even : Gains delay (cards_of crossroads) → ⊥
crossroads_even = no_gain (cards_of crossroads) (heights (pos 0 ∷ pos 5 ∷ pos 5 ∷ pos 4 ∷ [])) (list_passes (rising (heights (pos 0 ∷ pos 5 ∷ pos 5 ∷ pos 4 ∷ []))) crossroads refl)

two_even : Gains delay (cards_of two_crossroads) → ⊥
two_even = no_gain (cards_of two_crossroads) (heights (pos 0 ∷ pos 5 ∷ pos 5 ∷ pos 4 ∷ pos 4 ∷ [])) (list_passes (rising (heights (pos 0 ∷ pos 5 ∷ pos 5 ∷ pos 4 ∷ pos 4 ∷ []))) two_crossroads refl)

-- the least costs from 4 on in the house, and on to some formats
abbrev house_from_4 : List (Option ℤ)
house_from_4 = Some (negsuc 3) ∷ Some (pos 2) ∷ Some (negsuc 1) ∷ Some (negsuc 1) ∷ Some (pos 0) ∷ Some (pos 2) ∷ Some (pos 4) ∷ Some (pos 4) ∷ []

abbrev house_to_2 : List (Option ℤ)
house_to_2 = Some (pos 2) ∷ Some (pos 0) ∷ Some (pos 0) ∷ Some (pos 0) ∷ Some (negsuc 1) ∷ Some (pos 0) ∷ Some (pos 6) ∷ Some (pos 6) ∷ []

pub worked_forks : ForkCases
worked_forks = record {
  house_at_input = split_by delay_test delay_lawful shows_delay open_set worked_cases.house_is_even 4 4 2 6 (pos 2)
      (labels_of_table delay_test delay_lawful shows_delay house_from_4 house_to_2
      (Some (pos 8) ∷ Some (pos 2) ∷ Some (pos 10) ∷ Some (pos 6) ∷ Some (pos 4) ∷ Some (pos 2) ∷ Some (pos 0) ∷ Some (pos 0) ∷ []) 4 2 6 refl refl refl (meant delays house) refl refl refl) refl
      (alone delay_test open_set 4 (pos 0) refl refl)
      (by_way delay_test open_set 4 2 (negsuc 1) (3 ∷ 0 ∷ []) [] (refl, (refl, (refl, tt))) (refl, tt) refl)
      (by_way delay_test open_set 4 6 (pos 4) (3 ∷ 0 ∷ []) ((4 ∷ 3 ∷ 5 ∷ 1 ∷ 6 ∷ []) ∷ []) (refl, (refl, (refl, tt))) (refl, (refl, tt)) refl) refl;
  house_at_output = split_by delay_test delay_lawful shows_delay open_set worked_cases.house_is_even 4 5 1 5 (pos 2)
      (labels_of_table delay_test delay_lawful shows_delay house_from_4
      (Some (pos 8) ∷ Some (pos 0) ∷ Some (pos 10) ∷ Some (pos 4) ∷ Some (pos 2) ∷ Some (pos 0) ∷ Some (pos 12) ∷ Some (pos 12) ∷ [])
      (Some (pos 12) ∷ Some (pos 4) ∷ Some (pos 14) ∷ Some (pos 4) ∷ Some (pos 2) ∷ Some (pos 0) ∷ Some (pos 16) ∷ Some (pos 16) ∷ []) 4 1 5 refl refl refl (meant delays house) refl refl refl) refl
      (by_way delay_test open_set 4 5 (pos 2) (3 ∷ []) [] (refl, (refl, tt)) (refl, tt) refl)
      (by_way delay_test open_set 5 1 (pos 0) [] [] (refl, tt) (refl, tt) refl)
      (alone delay_test open_set 5 (pos 0) refl refl) refl;
  house_equal_outputs = split_by delay_test delay_lawful shows_delay open_set worked_cases.house_is_even 0 2 2 2 (pos 2)
      (labels_of_table delay_test delay_lawful shows_delay
      (Some (pos 0) ∷ Some (pos 8) ∷ Some (pos 2) ∷ Some (pos 10) ∷ Some (pos 14) ∷ Some (pos 12) ∷ Some (pos 8) ∷ Some (pos 8) ∷ []) house_to_2 house_to_2 0 2 2 refl refl refl (meant delays house) refl refl refl) refl
      (by_way delay_test open_set 0 2 (pos 2) [] [] (refl, tt) (refl, tt) refl)
      (alone delay_test open_set 2 (pos 0) refl refl)
      (alone delay_test open_set 2 (pos 0) refl refl) refl;
  crossroads_split = split_by delay_test delay_lawful shows_delay crossroads_set crossroads_even 0 3 1 2 (pos 8)
      (labels_of_list delay_test delay_lawful shows_delay
      (Some (pos 0) ∷ Some (pos 5) ∷ Some (pos 5) ∷ Some (pos 4) ∷ []) (Some (pos 5) ∷ Some (pos 0) ∷ None ∷ Some (pos 2) ∷ []) (Some (pos 5) ∷ None ∷ Some (pos 0) ∷ Some (pos 2) ∷ []) 0 1 2 refl refl refl crossroads refl refl refl) refl
      (by_way delay_test crossroads_set 0 3 (pos 4) [] [] (refl, tt) (refl, tt) refl)
      (by_way delay_test crossroads_set 3 1 (pos 2) [] [] (refl, tt) (refl, tt) refl)
      (by_way delay_test crossroads_set 3 2 (pos 2) [] [] (refl, tt) (refl, tt) refl) refl;
  two_crossroads_split = split_by delay_test delay_lawful shows_delay two_set two_even 0 3 2 1 (pos 8)
      (labels_of_list delay_test delay_lawful shows_delay
      (Some (pos 0) ∷ Some (pos 5) ∷ Some (pos 5) ∷ Some (pos 4) ∷ Some (pos 4) ∷ []) (Some (pos 5) ∷ None ∷ Some (pos 0) ∷ Some (pos 2) ∷ Some (pos 2) ∷ [])
      (Some (pos 5) ∷ Some (pos 0) ∷ None ∷ Some (pos 2) ∷ Some (pos 2) ∷ []) 0 2 1 refl refl refl two_crossroads refl refl refl) refl
      (by_way delay_test two_set 0 3 (pos 4) [] [] (refl, tt) (refl, tt) refl)
      (by_way delay_test two_set 3 2 (pos 2) [] [] (refl, tt) (refl, tt) refl)
      (by_way delay_test two_set 3 1 (pos 2) [] [] (refl, tt) (refl, tt) refl) refl;
  free_pair_split = split_by delay_test delay_lawful shows_delay pair_set worked_cases.pair_is_even 1 0 1 1 (pos 0)
      (labels_of_list delay_test delay_lawful shows_delay
      (Some (pos 0) ∷ Some (pos 0) ∷ Some (pos 5) ∷ []) (Some (pos 0) ∷ Some (pos 0) ∷ None ∷ []) (Some (pos 0) ∷ Some (pos 0) ∷ None ∷ []) 1 1 1 refl refl refl free_pair refl refl refl) refl
      (by_way delay_test pair_set 1 0 (pos 0) [] [] (refl, tt) (refl, tt) refl)
      (by_way delay_test pair_set 0 1 (pos 0) [] [] (refl, tt) (refl, tt) refl)
      (by_way delay_test pair_set 0 1 (pos 0) [] [] (refl, tt) (refl, tt) refl) refl;
  deep_detour_split = split_by depth_test depth_lawful shows_depth detour_set (depth_is_even (cards_of deep_detour)) 1 0 2 2 (bits 8)
      (labels_of_list depth_test depth_lawful shows_depth
      (Some (bits 9) ∷ Some depth.unit ∷ Some (bits 8) ∷ []) (Some (bits 8) ∷ Some (bits 8) ∷ Some depth.unit ∷ []) (Some (bits 8) ∷ Some (bits 8) ∷ Some depth.unit ∷ []) 1 2 2 refl refl refl deep_detour refl refl refl) refl
      (by_way depth_test detour_set 1 0 (bits 9) [] [] (refl, tt) (same_bits _ _ refl, tt) refl)
      (by_way depth_test detour_set 0 2 (bits 8) [] [] (refl, tt) (same_bits _ _ refl, tt) refl)
      (by_way depth_test detour_set 0 2 (bits 8) [] [] (refl, tt) (same_bits _ _ refl, tt) refl) (same_bits _ _ refl);
  deeper_way_split = split_by depth_test depth_lawful shows_depth deeper_set (depth_is_even (cards_of deeper_way)) 0 0 1 2 (bits 8)
      (labels_of_list depth_test depth_lawful shows_depth
      (Some depth.unit ∷ Some (bits 10) ∷ Some (bits 8) ∷ []) (Some (bits 10) ∷ Some depth.unit ∷ None ∷ []) (Some (bits 8) ∷ Some (bits 8) ∷ Some depth.unit ∷ []) 0 1 2 refl refl refl deeper_way refl refl refl) refl
      (alone depth_test deeper_set 0 (bits 255) (same_bits _ _ refl) refl)
      (by_way depth_test deeper_set 0 1 (bits 10) [] [] (refl, tt) (same_bits _ _ refl, tt) refl)
      (by_way depth_test deeper_set 0 2 (bits 8) (1 ∷ []) [] (refl, (refl, tt)) (same_bits _ _ refl, tt) refl) (same_bits _ _ refl);
  barred_house_first = fork_unreached delay_test delay_lawful barred_set barred_is_even 4 2 6 (inl worked_cases.barred_4_2);
  barred_house_second = fork_unreached delay_test delay_lawful barred_set barred_is_even 4 6 2 (inr worked_cases.barred_4_2);
  gain_elsewhere_refused = fork_looped delay_test delay_lawful elsewhere_set worked_cases.elsewhere_gains 0 1 1;
}
