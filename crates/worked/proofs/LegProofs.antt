-- What every route over some cards tells of a leg. A test of every chain from_to its ends shows it: the chain is one that the case has,
-- or the case's cost undercuts it, and then it is not the chain that the route wrote, since a walk is known to have that cost.
use Rattle.std.proofs.Common.{◌≡◌, ℕ, ◌<◌, Bool, true, false, cond, not, ◌&&◌, ◌||◌, T, ltb, ℤ, ◌<ℤ◌, ◌⊎◌, List, [], ◌∷◌, ◌++◌, map, length, get_or, slice_get, pos, is_some, Some, None, Option, Ok, Err, sym, refl, ap, ◌∙◌, subst, subst₂, inl, inr, arith}
use lib.Signed.{lt_z}
use Rattle.std.specs.List.{All, Contains, list_any, AllByRecursion}
use Rattle.std.specs.Str.{bytes_eq}
use Rattle.std.specs.Cmp.Lexicographic.{same_text}
use Rattle.std.proofs.lemmas.Bool.{false≢true, and_parts, not-true, or_cases, ltb-true}
use Rattle.std.proofs.lemmas.List.{length-map, get_or-map}
use Rattle.std.proofs.lemmas.List.Elements.{All-from_recursion, All-contains, All-map}
use Rattle.std.proofs.lemmas.Map.Views.{Contains-from_any}
use Rattle.std.proofs.lemmas.Option.{slice_get_within, get_or_from_slice_get}
use Rattle.costs.specs.declared.Cost.{Ghosts as Kind}
use Rattle.costs.specs.Algebra.{Algebra}
use Rattle.costs.specs.Kinds.{delays, depths, boths}
use Rattle.costs.specs.DelayLaws.{delay_lawful}
use Rattle.costs.specs.DepthLaws.{same_bits}
use Rattle.costs.specs.Depth.{Bits}
use Rattle.registers.specs.Meaning.{Meaning, IsSize, possible, standing}
use Rattle.walks.specs.Walk.{path, FromTo, Walk, cost, Chain, Gains}
use Rattle.bay.specs.Plain.{Plain}
use Rattle.bay.specs.Reversal.{RouteMade}
use Rattle.bay.specs.Routes.{HasNoChain, HasLeastChain, no_ends}
use Rattle.bay.specs.Routing.{RouteAnswer, LeastChainsIn}
use Rattle.bay.specs.Sheet.{row_at, row_of}
use Rattle.bay.specs.declared.fault.BayFault.TheVariants.{Loop}
use Rattle.bay.specs.declared.legs.Ends.{Ends}
use Rattle.walks.proofs.Runs.{one_from, one_or_path, path_from}
use Rattle.bay.proofs.BothWays.{looped_gains}
use Rattle.worked.specs.Walks.{cards_of}
use Rattle.worked.specs.Routes.{LegCase, by_chains, chainless, LegAs, GrantedAs, Stand, AlwaysRefused, AlwaysGranted}
use Rattle.worked.proofs.CaseProofs.{Pass, passes, every_card, list_passes}
use Rattle.worked.proofs.Chains.{LeadOn, Off, every_chain, every_chain_at}

-- cards from_to so many formats
pub record CardSet (A : Algebra) : Type 0 where
  pub card : ℕ → ℕ → Option A.Value
  pub size : ℕ
  pub is_size : IsSize size
  pub inside : Pass card (λ a b x. possible size a b)

-- those of a list
abbrev pub listed : {A : Algebra} (n : ℕ) → IsSize n → (ls : List (ℕ × ℕ × A.Value)) → every_card (λ a b x. possible n a b) ls ≡ true → CardSet A
listed n size ls t = record { card = cards_of ls; size = n; is_size = size; inside = list_passes (λ a b x. possible n a b) ls t }

pub standing_inside : {V : Type 0} (m : Meaning V) → Pass (standing m) (λ a b x. possible m.size a b)
standing_inside {V} m a b = by (possible m.size a b) (m.cards a b)
  where
    by : (k : Bool) (o : Option V) → passes (λ x. k) (cond k o None) ≡ true
    by true None = refl
    by true (Some x) = refl
    by false o = refl

-- the standing cards of a register
abbrev pub held : {A : Algebra} (m : Meaning A.Value) → IsSize m.size → CardSet A
held m size = record { card = standing m; size = m.size; is_size = size; inside = standing_inside m }

-- a held cost, and a test that shows that a cost undercuts another
pub record Tested {C : Type 0} (K : Kind C) : Type 0 where
  pub some : C
  pub under : K.algebra.Value → K.algebra.Value → Bool
  pub undercuts : (x y : K.algebra.Value) → under x y ≡ true → K.algebra.Under x y

abbrev pub delay_test : Tested delays
delay_test = record { some = record { half_lines = pos 0 }; under = lt_z; undercuts = λ x y e. record { lt = subst T (sym e) tt } }

abbrev pub depth_test : Tested depths
depth_test = record { some = record { bits = 0 }; under = λ x y. ltb y.count x.count; undercuts = λ x y e. ltb-true y.count x.count e }

pub under_both : (x y : ℤ × Bits) → (lt_z x.0 y.0 || (not (lt_z y.0 x.0) && ltb y.1.count x.1.count)) ≡ true → boths.algebra.Under x y
under_both x y e = elim (delay_lawful.one_of x.0 y.0) [
  | inl u ↦ inl u
  | inr r ↦ elim r [
    | inl same ↦ inr (same, deeper same)
    | inr over ↦ absurd (not_over over)
  ]
]
  where
    deeper : x.0 ≡ y.0 → y.1.count < x.1.count
    deeper same = elim (or_cases _ _ e) [
      | inl l ↦ absurd (delay_lawful.not_equal x.0 y.0 (record { lt = subst T (sym l) tt }) same)
      | inr d ↦ ltb-true y.1.count x.1.count (and_parts _ _ d).1
    ]

    not_over : y.0 <ℤ x.0 → ⊥
    not_over over = elim (or_cases _ _ e) [
      | inl l ↦ delay_lawful.not_both x.0 y.0 (record { lt = subst T (sym l) tt }) over
      | inr d ↦ subst T (not-true (lt_z y.0 x.0) (and_parts _ _ d).0) over.lt
    ]

abbrev pub both_test : Tested boths
both_test = record {
  some = record { first = record { half_lines = pos 0 }; second = record { bits = 0 } };
  under = λ x y. lt_z x.0 y.0 || (not (lt_z y.0 x.0) && ltb y.1.count x.1.count);
  undercuts = under_both;
}

-- two costs of as much delay and as many bits are equal
pub same_parts : (x y : ℤ × Bits) → x.0 ≡ y.0 → x.1.count ≡ y.1.count → x ≡ y
same_parts x y e f = λ i. (e i, same_bits x.1 y.1 f i)

walk_leads : (A : Algebra) (card : ℕ → ℕ → Option A.Value) (s : ℕ) (ms : List ℕ) (t : ℕ) → Walk A card (path s ms t) → LeadOn card s (ms ++ t ∷ []) t
walk_leads A card s [] t w = (w.0, refl)
walk_leads A card s (m ∷ ms) t w = (w.0, walk_leads A card m ms t w.1)

-- a walk goes on from its first format to its last
walk_goes_on : (A : Algebra) (card : ℕ → ℕ → Option A.Value) (s t : ℕ) (fs : List ℕ) → FromTo s t fs → Walk A card fs → (gs : List ℕ) × (fs ≡ s ∷ gs) × LeadOn card s gs t
walk_goes_on A card s t fs ends w = go (one_or_path s t fs ends)
  where
    go : ((s ≡ t) × (fs ≡ s ∷ [])) ⊎ ((ms : List ℕ) × (fs ≡ path s ms t)) → (gs : List ℕ) × (fs ≡ s ∷ gs) × LeadOn card s gs t
    go (inl (same, is)) = ([], is, same)
    go (inr (ms, is)) = (ms ++ t ∷ [], is, walk_leads A card s ms t (rw is at w))

off_none : (fs : List ℕ) → Off [] fs
off_none [] = tt
off_none (f ∷ fs) = (tt, off_none fs)

contains_map : {X Y : Type 0} (f : X → Y) (xs : List X) (x : X) → Contains xs x → Contains (map f xs) (f x)
contains_map f xs x (k, lt, at) = (k, subst (λ n. k < n) (sym (length-map xs f)) lt, get_or-map f xs k x (f x) lt ∙ ap f at)

-- a leg over the cards
module _ {A : Algebra} (s : CardSet A) where
  abbrev Told : (ℕ → ℕ → Option A.Value) → Ends → List ℕ → A.Value → Type 0
  Told card leg row paid = HasNoChain A card leg row paid ⊎ HasLeastChain A card leg row paid

  -- what a route tells of the case's leg is as the case says
  abbrev IsCase : LegCase A.Value → Type 0
  IsCase c = (row : List ℕ) (paid : A.Value) → Told s.card c.leg row paid → (paid ≡ c.cost) × Contains (map row_of c.rows) row

  abbrev pub ProvedCase : Type 0
  ProvedCase = (c : LegCase A.Value) × IsCase c

  -- the test passes at every chain from a to b
  abbrev pub every_chain_from : ℕ → ℕ → (List ℕ → Bool) → Bool
  every_chain_from a b test = every_chain s.card s.size s.size [] a b test

  chain_passes : (a b : ℕ) (test : List ℕ → Bool) → every_chain_from a b test ≡ true → (fs : List ℕ) → FromTo a b fs → Chain A s.card fs → test fs ≡ true
  chain_passes a b test h fs ends c =
      let (gs, is, leads) = walk_goes_on A s.card a b fs ends c.0 in
      subst (λ fs. test fs ≡ true) (sym is) (every_chain_at s.card s.size s.inside s.size [] a b test h gs leads (rw is at c.1) (off_none (a ∷ gs)))

  pub no_chain_is : (a b : ℕ) → every_chain_from a b (λ fs. false) ≡ true → IsCase (chainless A a b)
  no_chain_is a b h row paid (inl u) = (u.costs, (0, omega arith, sym u.row_is))
  no_chain_is a b h row paid (inr r) = absurd (false≢true (chain_passes a b (λ fs. false) h r.formats r.from_to r.chain))

  -- no chain leads from a to b
  abbrev pub no_chain : (a b : ℕ) → every_chain_from a b (λ fs. false) ≡ true → ProvedCase
  no_chain a b h = (chainless A a b, no_chain_is a b h)

module _ {C : Type 0} {K : Kind C} (t : Tested K) (s : CardSet K.algebra) where
  -- the chain is one of the rows, or x undercuts it
  abbrev pub told_or_worse : K.algebra.Value → List (List ℕ) → List ℕ → Bool
  told_or_worse x rows fs = list_any (bytes_eq fs) rows || t.under x (cost K.algebra s.card fs)

  -- a walk from a to b, and other chains
  module _ (a b : ℕ) (x : K.algebra.Value) (gs : List ℕ) (ends : FromTo a b gs) (others : List (List ℕ)) where
    abbrev rows : List (List ℕ)
    rows = gs ∷ others

    abbrev CostsX : List ℕ → Type 0
    CostsX fs = cost K.algebra s.card fs ≡ x

    module _ (walk : Walk K.algebra s.card gs) (costs : AllByRecursion CostsX rows) (each : every_chain_from s a b (told_or_worse x rows) ≡ true) where
      pub least_chains_are : IsCase s (by_chains a b x rows)
      least_chains_are row paid (inl u) = absurd (u.no_walk gs ends walk)
      least_chains_are row paid (inr r) =
          let fs : List ℕ = r.formats in
          elim (or_cases _ _ (chain_passes s a b (told_or_worse x rows) each r.formats r.from_to r.chain)) [
            | inl e ↦
                let told : Contains rows fs = Contains-from_any {eq = bytes_eq} (λ xs ys same. same_text xs ys (sym same)) fs rows e in
                (r.costs ∙ All-contains CostsX rows fs (All-from_recursion CostsX rows costs) told, subst (Contains (map row_of rows)) (sym r.row_is) (contains_map row_of rows fs told))
            | inr e ↦ absurd (r.least gs ends walk (subst₂ K.algebra.Under (sym costs.0) (sym r.costs) (t.undercuts x (cost K.algebra s.card fs) e)))
          ]

      -- from a to b the walk and the other chains cost x, and each further chain costs more
      abbrev pub least_by : ProvedCase s
      least_by = (by_chains a b x rows, least_chains_are)

  -- the walk from a to b goes through ms
  abbrev pub least_chains : (a b : ℕ) (x : K.algebra.Value) (ms : List ℕ) (others : List (List ℕ)) → Walk K.algebra s.card (path a ms b) →
      AllByRecursion (λ fs. cost K.algebra s.card fs ≡ x) (path a ms b ∷ others) → every_chain_from s a b (told_or_worse x (path a ms b ∷ others)) ≡ true → ProvedCase s
  least_chains a b x ms others = least_by a b x (path a ms b) (path_from a ms b) others

  -- it is the format alone
  abbrev pub stays : (a : ℕ) (x : K.algebra.Value) → K.algebra.unit ≡ x → every_chain_from s a a (told_or_worse x ((a ∷ []) ∷ [])) ≡ true → ProvedCase s
  stays a x e = least_by a a x (a ∷ []) (one_from a) [] tt (e, tt)

-- a route over the cards
module _ {C : Type 0} (K : Kind C) (s : CardSet K.algebra) where
  pub some_register : (m : Meaning K.algebra.Value) × IsSize m.size × Stand K s.card m
  some_register = (record { size = s.size; cards = s.card; sealed = λ a b. false; free = 0 }, s.is_size, λ a b. by (possible s.size a b) (s.card a b) (s.inside a b))
    where
      by : (k : Bool) (o : Option K.algebra.Value) → passes (λ x. k) o ≡ true → cond k o None ≡ o
      by true o h = refl
      by false None h = refl
      by false (Some x) h = absurd (false≢true h)

  pub same_cards : (p : Plain K) → Stand K s.card p.register → standing p.register ≡ s.card
  same_cards p stand i a b = stand a b i

  pub always_refused : Gains K.algebra s.card → (legs : List Ends) → AlwaysRefused K s.card legs
  always_refused gains legs = record { some = some_register; each = λ p stand e r. go p stand r r.answered }
    where
      go : (p : Plain K) → Stand K s.card p.register → (r : RouteMade p) → RouteAnswer p r.legs r.noted r.before r.after r.answer → r.answer ≡ Err Loop
      go p stand r (inl away) = absurd (false≢true (ap is_some (sym r.roomy ∙ away.holds)))
      go p stand r (inr (inl found)) = found.answers
      go p stand r (inr (inr granted)) = absurd (granted.no_loop (subst (Gains K.algebra) (sym (same_cards p stand)) gains))

module _ {C : Type 0} {K : Kind C} (t : Tested K) (s : CardSet K.algebra) where
  module _ (cases : List (LegCase K.algebra.Value)) (all : All (IsCase s) cases) where
    leg_as : (p : Plain K) → Stand K s.card p.register → p.legs ≡ map (λ c. c.leg) cases → (r : RouteMade p) → LeastChainsIn p r.after →
        (k : ℕ) (c : LegCase K.algebra.Value) → slice_get cases k ≡ Some c → LegAs r k c
    leg_as p stand e r routed k c at = record { cost = λ d. (is_so d).0; row = (is_so t.some).1 }
      where
        k_in : k < length cases
        k_in = slice_get_within cases k c at

        this : get_or cases k c ≡ c
        this = get_or_from_slice_get cases k c c at

        leg_is : get_or p.legs k no_ends ≡ c.leg
        leg_is = ap (λ legs. get_or legs k no_ends) e ∙ get_or-map (λ x. x.leg) cases k c no_ends k_in ∙ ap (λ x. x.leg) this

        is_so : (d : C) → (K.value (get_or r.after.costs k d) ≡ c.cost) × Contains (map row_of c.rows) (row_at r.after.chains k)
        is_so d =
            let row : List ℕ = row_at r.after.chains k in
            let paid : K.algebra.Value = K.value (get_or r.after.costs k d) in
            let told = (routed d).each k (subst (λ n. k < n) (sym (ap length e ∙ length-map cases (λ x. x.leg))) k_in) in
            subst (IsCase s) this (all k c k_in) row paid (subst₂ (λ card leg. Told s card leg row paid) (same_cards K s p stand) leg_is told)

    granted_as : (Gains K.algebra s.card → ⊥) → AlwaysGranted K s.card cases
    granted_as even = record { some = some_register K s; each = λ p stand e r. go p stand e r r.answered }
      where
        go : (p : Plain K) → Stand K s.card p.register → p.legs ≡ map (λ c. c.leg) cases → (r : RouteMade p) →
            RouteAnswer p r.legs r.noted r.before r.after r.answer → GrantedAs r cases
        go p stand e r (inl away) = absurd (false≢true (ap is_some (sym r.roomy ∙ away.holds)))
        go p stand e r (inr (inl found)) =
            absurd (even (subst (Gains K.algebra) (same_cards K s p stand) (looped_gains K.algebra (standing p.register) (row_at r.after.chains 0) found.loop)))
        go p stand e r (inr (inr granted)) = record {
          answer = granted.answers ∙ ap Ok (ap length e ∙ length-map cases (λ c. c.leg));
          legs = leg_as p stand e r granted.routed;
        }

  pub always_granted : (Gains K.algebra s.card → ⊥) → (cases : List (ProvedCase s)) → AlwaysGranted K s.card (map (λ c. c.0) cases)
  always_granted even cases = granted_as (map (λ c. c.0) cases) (All-map (IsCase s) (λ c. c.0) cases (λ k d lt. (get_or cases k d).1)) even
