-- The cheapest split: the least total at one format, the best of the formats so far, and the rows that are written of it.
use Rattle.std.proofs.Common.{◌≡◌, ℕ, ◌+◌, ◌-◌, ◌*◌, ◌<◌, ◌≤◌, ◌⊎◌, true, false, List, [], ◌∷◌, length, get_or, replicate, set, Some, None, Option, sym, refl, ap, ◌∙◌, subst, inl, inr, arith, MatchOption}
use Rattle.std.proofs.lemmas.Bool.{cases_eq, cases_lt}
use Rattle.std.proofs.lemmas.List.{get_or-set_same, length-replicate}
use Rattle.costs.specs.declared.Cost.{Ghosts as Kind}
use Rattle.costs.specs.Algebra.{Algebra, IsJoin, Lawful}
use Rattle.registers.specs.Meaning.{most_formats}
use Rattle.walks.specs.Theorems.{Sound}
use Rattle.walks.specs.Walk.{Chain, Least, LeastOf, WalkCosts, cost}
use Rattle.walks.proofs.Least.{AtMost, at_most_both, at_most_joined, at_most_trans}
use Rattle.walks.proofs.Loops.{runs_inside}
use Rattle.walks.proofs.Runs.{cost_runs, one_from}
use Rattle.bay.specs.Buffers.{Beyond}
use Rattle.bay.specs.Plain.{from_to}
use Rattle.bay.specs.Routes.{HasLeastChain}
use Rattle.bay.specs.Sheet.{most_in_row, put_row, row_at, row_bytes, row_of}
use Rattle.bay.specs.SplitTables.{BestBelow, Better, ChainPut, NoTotalAt, TotalsAt}
use Rattle.bay.specs.Splits.{Cheapest, HasCheapestSplit, NoWalk, SplitCosts, split_rows}
use Rattle.bay.specs.Tracing.{Follows, Leads, Traced}
use Rattle.bay.specs.declared.splits.Branches.{Branches}
use Rattle.bay.specs.declared.splits.Split.{Split}
use Rattle.bay.proofs.Follow.{follows_ends}
use Rattle.bay.proofs.RouteCall.{beyond_any}
use Rattle.bay.proofs.Sheets.{chain_leads, get_or_put_row_above, leads_few, length_put_row, length_row_of, row_at_put_row, row_at_put_row_other}

-- what no cost is had for is where no walk leads
pub no_walk : (A : Algebra) (card : ℕ → ℕ → Option A.Value) (s t : ℕ) → Least A card s t None → NoWalk A card s t
no_walk A card s t none fs ends walk = none _ (fs, ends, walk, refl)

module _ {A : Algebra} (L : Lawful A) where
  -- what undercuts a cost undercuts all that this is at most
  pub under_least : (a b c : A.Value) → A.Under a b → AtMost A b c → A.Under a c
  under_least a b c u p = elim (L.one_of a c) [
    | inl v ↦ v
    | inr (inl e) ↦ absurd (p (subst (λ x. A.Under x b) e u))
    | inr (inr v) ↦ absurd (p (L.trans c a b v u))
  ]

  -- Three least costs lie so near that what is held for them together is exact.
  pub total_exact : (n : ℕ) (a b c x y : A.Value) → n ≤ most_formats → A.Within (n - 1) a → A.Within (n - 1) b → A.Within (n - 1) c → IsJoin A a b x → IsJoin A x c y → y ≡ A.join (A.join a b) c
  total_exact n a b c x y few p q r first second =
      let is : x ≡ A.join a b = first (n - 1) (n - 1) (omega arith) p q in
      let near : A.Within (n - 1 + (n - 1)) x = subst (A.Within (n - 1 + (n - 1))) (sym is) (L.within_join (n - 1) (n - 1) a b (omega arith) p q) in
      second (n - 1 + (n - 1)) (n - 1) (omega arith) near r ∙ ap (λ z. A.join z c) is

  module _ (card : ℕ → ℕ → Option A.Value) (input first second : ℕ) where
    -- three least costs make a total that is at most each other at their format
    totals_below : (m : ℕ) (a b c : A.Value) → Least A card input m (Some a) → Least A card m first (Some b) → Least A card m second (Some c) →
        (y : A.Value) → SplitCosts A card input first second m y → AtMost A (A.join (A.join a b) c) y
    totals_below m a b c la lb lc y (a', b', c', wa, wb, wc, e) =
        subst (AtMost A (A.join (A.join a b) c)) (sym e)
        (at_most_joined L _ _ _ _ (at_most_joined L a a' b b' (la.1 a' wa) (lb.1 b' wb)) (lc.1 c' wc))

    pub totals_some : (m : ℕ) (a b c x : A.Value) → Least A card input m (Some a) → Least A card m first (Some b) → Least A card m second (Some c) → x ≡ A.join (A.join a b) c →
        LeastOf A (SplitCosts A card input first second m) (Some x)
    totals_some m a b c x la lb lc e = ((a, b, c, la.0, lb.0, lc.0, e), λ y t. subst (λ z. AtMost A z y) (sym e) (totals_below m a b c la lb lc y t))

    -- the least total is that of the least costs
    pub total_is : (m : ℕ) (a b c x : A.Value) → Least A card input m (Some a) → Least A card m first (Some b) → Least A card m second (Some c) → Cheapest A card input first second m x →
        x ≡ A.join (A.join a b) c
    total_is m a b c x la lb lc best =
        at_most_both L x _ (best.least m _ (a, b, c, la.0, lb.0, lc.0, refl)) (totals_below m a b c la lb lc x best.total)

  -- a walk from a format ends in a format
  walk_inside : (n : ℕ) (card : ℕ → ℕ → Option A.Value) → Sound A n card → (s t : ℕ) (x : A.Value) → s < n → WalkCosts A card s t x → t < n
  walk_inside n card sound s t x inside walk = elim (cases_eq s t) [
    | inl e ↦ subst (λ v. v < n) e inside
    | inr ne ↦ let (ms, r) = cost_runs L card s t x ne walk in (runs_inside L card n sound s ms t x r).2
  ]

module _ {C : Type 0} (K : Kind C) (L : Lawful K.algebra) (card : ℕ → ℕ → Option K.algebra.Value) (b : Branches) where
  abbrev Total : ℕ → K.algebra.Value → Type 0
  Total = TotalsAt K.algebra card b

  no_total : (m : ℕ) (x : K.algebra.Value) → NoTotalAt K.algebra card b m → Total m x → ⊥
  no_total m x none (y, z, w, stem, branch, other, e) = elim none [
    | inl never ↦ never stem.0 stem.1 stem.2
    | inr (inl never) ↦ never branch.0 branch.1 branch.2
    | inr (inr never) ↦ never other.0 other.1 other.2
  ]

  -- the best of the formats up to one more
  pub best_more : (at : ℕ) (held : Option (Split C)) (total : Option C) (best : Option (Split C)) → BestBelow K card b at held →
      MatchOption total (NoTotalAt K.algebra card b at) (λ x. LeastOf K.algebra (Total at) (Some (K.value x))) → Better K held at total best → BestBelow K card b (at + 1) best
  best_more at held total best below found better = go held total below found better
    where
      -- what holds below and at a format holds below the next
      up : (P : ℕ → Type 0) → ((k : ℕ) → k < at → P k) → P at → (k : ℕ) → k < at + 1 → P k
      up P low here k l = elim (cases_lt k at) [ inl less ↦ low k less | inr more ↦ let e : at ≡ k = omega arith in subst P e here ]

      go : (held : Option (Split C)) (total : Option C) → BestBelow K card b at held → MatchOption total (NoTotalAt K.algebra card b at) (λ x. LeastOf K.algebra (Total at) (Some (K.value x))) →
          Better K held at total best → BestBelow K card b (at + 1) best
      go None None below none e = subst (BestBelow K card b (at + 1)) (sym e) (up (NoTotalAt K.algebra card b) below none)
      go (Some s) None (inside, is, least, lowest) none e = subst (BestBelow K card b (at + 1)) (sym e) (
        omega arith,
        is,
        λ k x l. up (λ j. Total j x → K.algebra.Under x (K.value s.total) → ⊥) (λ j. least j x) (λ t. absurd (no_total at x none t)) k l,
        lowest,
      )
      go None (Some x) below (is, least) e = subst (BestBelow K card b (at + 1)) (sym e) (
        omega arith,
        is,
        λ k y l. up (λ j. Total j y → K.algebra.Under y (K.value x) → ⊥) (λ j m t. absurd (no_total j y (below j m) t)) (least y) k l,
        λ k y l t. absurd (no_total k y (below k l) t),
      )
      go (Some s) (Some x) (inside, held, least, lowest) (is, under) (inl (e, less)) =
          let lower : (k : ℕ) (y : K.algebra.Value) → k < at → Total k y → K.algebra.Under (K.value x) y = λ k y l t. under_least L _ _ _ less (least k y l t) in
          subst (BestBelow K card b (at + 1)) (sym e) (
            omega arith,
            is,
            λ k y l. up (λ j. Total j y → K.algebra.Under y (K.value x) → ⊥) (λ j m t u. L.not_both _ _ (lower j y m t) u) (under y) k l,
            lower,
          )
      go (Some s) (Some x) (inside, held, least, lowest) (is, under) (inr (e, more)) = subst (BestBelow K card b (at + 1)) (sym e) (
        omega arith,
        held,
        λ k y l. up (λ j. Total j y → K.algebra.Under y (K.value s.total) → ⊥) (λ j. least j y) (λ t. at_most_trans L _ _ _ more (under y t)) k l,
        lowest,
      )

  module _ (n : ℕ) (sound : Sound K.algebra n card) (inside : b.input < n) where
    -- the best of all formats is the cheapest split
    pub best_cheapest : (s : Split C) → BestBelow K card b n (Some s) → Cheapest K.algebra card b.input b.first b.second s.at (K.value s.total)
    best_cheapest s (_, total, least, lowest) = record {
      total = total;
      least = λ k y t. least k y (walk_inside L n card sound b.input k t.0 inside t.3) t;
      lowest = lowest;
    }

    -- where no format will do, the input does not: so no walk leads from it to some output
    pub none_best : BestBelow K card b n None → NoWalk K.algebra card b.input b.first ⊎ NoWalk K.algebra card b.input b.second
    none_best none = elim (none b.input inside) [
      | inl never ↦ absurd (never (b.input ∷ []) (one_from b.input) tt)
      | inr cut ↦ cut
    ]

-- a chain of least cost is found where a walk leads, from what was traced to a goal
module _ {A : Algebra} (L : Lawful A) (n : ℕ) (card : ℕ → ℕ → Option A.Value) (sound : Sound A n card) (few : n ≤ most_formats) (from to : ℕ) (inside : to < n)
    (next : List ℕ) (d : ℕ → Option A.Value) (least : Least A card from to (d from)) (traced : Traced A n card d to next from)
    (reached : (x : A.Value) × WalkCosts A card from to x) where
  abbrev ChainFound : Type 0
  ChainFound = (fs : List ℕ) × Chain A card fs × Follows next to from fs × Least A card from to (Some (cost A card fs))

  abbrev TracedBy : Option A.Value → Type 0
  TracedBy o =
      MatchOption o ((x : A.Value) → WalkCosts A card from to x → ⊥)
      (λ x. (fs : List ℕ) × Chain A card fs × (cost A card fs ≡ x) × Follows next to from fs)

  chain_found : ChainFound
  chain_found = go (d from) least traced
    where
      go : (o : Option A.Value) → Least A card from to o → TracedBy o → ChainFound
      go None none never = absurd (none reached.0 reached.1)
      go (Some x) here (fs, chain, costs, follows) = (fs, chain, follows, subst (λ y. Least A card from to (Some y)) (sym costs) here)

  pub found_leads : Leads next to from
  found_leads = chain_leads L n card sound few next to from chain_found.0 inside chain_found.1 chain_found.2

  pub found_put : (k count : ℕ) (before after : List ℕ) → ((fs : List ℕ) → Follows next to from fs → (count ≡ length fs) × (after ≡ put_row before k (row_of fs))) →
      ChainPut A card from to k before after
  found_put k count before after told =
      let (fs, chain, follows, here) = chain_found in
      record {
        row = row_of fs;
        paid = cost A card fs;
        chain = record {
          formats = fs;
          row_is = refl;
          from_to = follows_ends next to from fs follows;
          chain = chain;
          costs = refl;
          least = λ ws ends walk. here.1 _ (ws, ends, walk, refl);
        };
        long = length_row_of fs (leads_few most_in_row next to from found_leads fs follows);
        put = (told fs follows).1;
      }

-- the only format that a chain is wanted from
pub one_wanted : (from : ℕ) → from < most_formats → get_or (set (replicate most_formats false) from true) from false ≡ true
one_wanted from inside = get_or-set_same (replicate most_formats false) from true false (omega (arith, length-replicate most_formats false))

-- a chain that was put is one of least cost
put_least : (A : Algebra) (card : ℕ → ℕ → Option A.Value) (s t k : ℕ) (before after : List ℕ) (p : ChainPut A card s t k before after) → Least A card s t (Some p.paid)
put_least A card s t k before after p =
    let c = p.chain in
    ((c.formats, c.from_to, c.chain.0, sym c.costs), λ y w u. c.least w.0 w.1 w.2 (subst (λ z. A.Under z p.paid) (sym w.3) u))

-- three rows that are put one after the other
module _ {A : Algebra} (L : Lawful A) (card : ℕ → ℕ → Option A.Value) (b : Branches) (m : ℕ) (total : A.Value) (best : Cheapest A card b.input b.first b.second m total)
    (before one two after : List ℕ) (room : row_bytes * split_rows ≤ length before)
    (p : ChainPut A card b.input m 0 before one) (q : ChainPut A card m b.first 1 one two) (r : ChainPut A card m b.second 2 two after) where
  one_long : length one ≡ length before
  one_long = ap length p.put ∙ length_put_row before 0 p.row (omega arith) p.long

  two_long : length two ≡ length one
  two_long = ap length q.put ∙ length_put_row one 1 q.row (omega (arith, one_long)) q.long

  after_long : length after ≡ length two
  after_long = ap length r.put ∙ length_put_row two 2 r.row (omega (arith, one_long, two_long)) r.long

  -- what stands after the second row is put, and after the third
  kept_two : (j : ℕ) → (j ≡ 1 → ⊥) → row_at two j ≡ row_at one j
  kept_two j ne = ap (λ s. row_at s j) q.put ∙ row_at_put_row_other one 1 q.row (omega (arith, one_long)) q.long j ne

  kept_after : (j : ℕ) → (j ≡ 2 → ⊥) → row_at after j ≡ row_at two j
  kept_after j ne = ap (λ s. row_at s j) r.put ∙ row_at_put_row_other two 2 r.row (omega (arith, one_long, two_long)) r.long j ne

  row_zero : row_at after 0 ≡ p.row
  row_zero = kept_after 0 (λ e. omega (arith, e)) ∙ kept_two 0 (λ e. omega (arith, e)) ∙ ap (λ s. row_at s 0) p.put ∙ row_at_put_row before 0 p.row (omega arith) p.long

  row_one : row_at after 1 ≡ q.row
  row_one = kept_after 1 (λ e. omega (arith, e)) ∙ ap (λ s. row_at s 1) q.put ∙ row_at_put_row one 1 q.row (omega (arith, one_long)) q.long

  row_two : row_at after 2 ≡ r.row
  row_two = ap (λ s. row_at s 2) r.put ∙ row_at_put_row two 2 r.row (omega (arith, one_long, two_long)) r.long

  above : (i : ℕ) → row_bytes * split_rows ≤ i → get_or after i 0 ≡ get_or before i 0
  above i h =
      ap (λ s. get_or s i 0) r.put ∙ get_or_put_row_above two 2 r.row (omega (arith, one_long, two_long)) r.long i (omega arith) ∙
      ap (λ s. get_or s i 0) q.put ∙ get_or_put_row_above one 1 q.row (omega (arith, one_long)) q.long i (omega arith) ∙
      ap (λ s. get_or s i 0) p.put ∙ get_or_put_row_above before 0 p.row (omega arith) p.long i (omega arith)

  pub rows_beyond : Beyond (row_bytes * split_rows) before after
  rows_beyond = beyond_any 0 (row_bytes * split_rows) before after (after_long ∙ two_long ∙ one_long) above

  pub rows_split : HasCheapestSplit A card b.input b.first b.second m (row_at after) total
  rows_split = record {
    stem = p.paid;
    branch = q.paid;
    other = r.paid;
    to_split = subst (λ row. HasLeastChain A card (from_to b.input m) row p.paid) (sym row_zero) p.chain;
    to_first = subst (λ row. HasLeastChain A card (from_to m b.first) row q.paid) (sym row_one) q.chain;
    to_second = subst (λ row. HasLeastChain A card (from_to m b.second) row r.paid) (sym row_two) r.chain;
    total = total_is L card b.input b.first b.second m p.paid q.paid r.paid total (put_least A card _ _ _ _ _ p) (put_least A card _ _ _ _ _ q) (put_least A card _ _ _ _ _ r) best;
    cheapest = best;
  }
