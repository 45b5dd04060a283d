-- What the methods of the legs do to the list that is held, the first `count` of the array.
use Rattle.std.proofs.Common.{◌≡◌, ℕ, suc, ◌+◌, ◌-◌, ◌<◌, ◌≤◌, ◌⊎◌, inl, inr, Bool, true, false, List, ◌++◌, length, get_or, set, take, drop, sym, ap, ◌∙◌, subst, add-one, arith, below_more, length-set, length-append, length-drop, length-take-le}
use lib.ListN.{length-map}
use Rattle.std.proofs.lemmas.List.Edits.{take-paste}
use Rattle.std.proofs.lemmas.List.{drop-take, same_lists, get_or-set_other, get_or-set_same, get_or_default, take-take}
use Rattle.std.proofs.lemmas.Bool.{cases_eq}
use Rattle.std.specs.List.{copy_within}
use Rattle.registers.specs.Meaning.{most_formats}
use Rattle.bay.proofs.Searches.{still_ticked}
use Rattle.bay.specs.declared.legs.Note.TheVariants.{Open}
use Rattle.bay.specs.declared.legs.Leg.{Leg}
use Rattle.bay.specs.declared.legs.Legs.{Legs}
use Rattle.bay.specs.Leg.{no_leg, noted}
use Rattle.bay.specs.FormatSets.{holds}
use Rattle.bay.specs.Leg.{opened}
use Rattle.bay.specs.declared.sets.FormatSet.{FormatSet}
use Rattle.bay.specs.Legs.{booked, struck}

pub length_booked : (l : Legs) → length (booked l) ≡ l.count
length_booked l = length-take-le l.count l.list (omega (arith, l.long, l.few))

module _ {X : Type 0} (d : X) where
  -- lists that agree at each place
  pub alike : (xs ys : List X) → length xs ≡ length ys → ((k : ℕ) → k < length xs → get_or xs k d ≡ get_or ys k d) → xs ≡ ys
  alike xs ys long same =
      same_lists xs ys long (λ k e h. get_or_default xs k e d h ∙ same k h ∙ get_or_default ys k d e (omega arith))

-- the places after k move down by one, up to place n
pub moved_down : {X : Type 0} (k n : ℕ) (xs : List X) → k < n → n ≤ length xs → take (n - 1) (copy_within xs (k + 1) n k) ≡ struck k (take n xs)
moved_down k n xs kn fits =
    let left = n - (k + 1) in
    let one_less : n - 1 ≡ k + left = omega arith in
    let all : suc k + left ≡ n = omega arith in
    let room : left ≤ length (drop (k + 1) xs) = omega (arith, length-drop (k + 1) xs) in
    ap (λ m. take m (copy_within xs (k + 1) n k)) one_less ∙
    take-paste xs k (drop (k + 1) xs) left (omega arith) room ∙
    (λ i. sym (take-take k n xs (omega arith)) i ++ ((ap (λ m. take left (drop m xs)) (add-one k) ∙ sym (drop-take (suc k) left xs) ∙ ap (λ m. drop (suc k) (take m xs)) all) i))

pub length_opened : (n : ℕ) (legs : List Leg) → n ≤ length legs → length (opened (take n legs) ++ drop n legs) ≡ length legs
length_opened n legs fits =
    let many = length-map (take n legs) (noted Open) in
    let first = length-take-le n legs fits in
    let rest = length-drop n legs in
    length-append (opened (take n legs)) (drop n legs) ∙ omega arith

-- of the first n legs, each that ends in the goal has a tick where it begins
abbrev pub Started : List Leg → ℕ → ℕ → List Bool → Type 0
Started legs goal n starts = (length starts ≡ most_formats) ×
    ((k : ℕ) → k < n → (get_or legs k no_leg).to ≡ goal → get_or starts (get_or legs k no_leg).from false ≡ true)

-- a format with a mark is one where such a leg begins
abbrev pub OnlyStarted : List Leg → ℕ → ℕ → List Bool → Type 0
OnlyStarted legs goal n starts =
    (v : ℕ) → get_or starts v false ≡ true → (k : ℕ) × (k < n) × ((get_or legs k no_leg).to ≡ goal) × ((get_or legs k no_leg).from ≡ v)

pub only_passes : (legs : List Leg) (goal n : ℕ) (starts : List Bool) → OnlyStarted legs goal n starts → (starts' : List Bool) → starts' ≡ starts → OnlyStarted legs goal (n + 1) starts'
only_passes legs goal n starts only starts' e v h =
    let (k, low, to, from) = only v (ap (λ s. get_or s v false) (sym e) ∙ h) in
    (k, omega arith, to, from)

pub only_more : (legs : List Leg) (goal n : ℕ) (starts : List Bool) → OnlyStarted legs goal n starts → (leg : Leg) → leg ≡ get_or legs n no_leg → leg.to ≡ goal →
    (starts' : List Bool) → starts' ≡ set starts leg.from true → OnlyStarted legs goal (n + 1) starts'
only_more legs goal n starts only leg is to starts' e v h = go (cases_eq v leg.from)
  where
    go : (v ≡ leg.from) ⊎ (v ≡ leg.from → ⊥) → (k : ℕ) × (k < n + 1) × ((get_or legs k no_leg).to ≡ goal) × ((get_or legs k no_leg).from ≡ v)
    go (inl same) = (n, omega arith, ap (λ l. l.to) (sym is) ∙ to, ap (λ l. l.from) (sym is) ∙ sym same)
    go (inr other) =
        let (k, low, ends, from) = only v (sym (get_or-set_other starts leg.from v true false other) ∙ ap (λ s. get_or s v false) (sym e) ∙ h) in
        (k, omega arith, ends, from)

pub started_more : (legs : List Leg) (goal n : ℕ) (starts : List Bool) → Started legs goal n starts → (leg : Leg) → leg ≡ get_or legs n no_leg → leg.from < most_formats →
    (starts' : List Bool) → starts' ≡ set starts leg.from true → Started legs goal (n + 1) starts'
started_more legs goal n starts (long, seen) leg is few starts' e =
    let inside : leg.from < length starts = omega (arith, long) in
    rw e (
      length-set starts leg.from true ∙ long,
      below_more (λ k. (get_or legs k no_leg).to ≡ goal → get_or (set starts leg.from true) (get_or legs k no_leg).from false ≡ true) n
          (λ k l to. still_ticked starts leg.from (get_or legs k no_leg).from inside (seen k l to))
          (λ to. subst (λ x. get_or (set starts leg.from true) x.from false ≡ true) is (get_or-set_same starts leg.from true false inside)),
    )

pub started_passes : (legs : List Leg) (goal n : ℕ) (starts : List Bool) → Started legs goal n starts →
    ((get_or legs n no_leg).to ≡ goal → ⊥) → (starts' : List Bool) → starts' ≡ starts → Started legs goal (n + 1) starts'
started_passes legs goal n starts (long, seen) none starts' e =
    rw e (
      long,
      below_more (λ k. (get_or legs k no_leg).to ≡ goal → get_or starts (get_or legs k no_leg).from false ≡ true) n seen
          (λ to. absurd (none to)),
    )

-- the set has the formats where the first n legs end, and no other
abbrev pub Ended : List Leg → ℕ → FormatSet → Type 0
Ended legs n goals = ((k : ℕ) → k < n → holds goals (get_or legs k no_leg).to ≡ true) ×
    ((f : ℕ) → holds goals f ≡ true → (k : ℕ) × (k < n) × ((get_or legs k no_leg).to ≡ f))

pub ended_more : (legs : List Leg) (n : ℕ) (goals : FormatSet) → Ended legs n goals → (leg : Leg) → leg ≡ get_or legs n no_leg → (goals' : FormatSet) → holds goals' leg.to ≡ true →
    ((f : ℕ) → (f ≡ leg.to → ⊥) → holds goals' f ≡ holds goals f) → Ended legs (n + 1) goals'
ended_more legs n goals (seen, only) leg is goals' has others = (
  below_more (λ k. holds goals' (get_or legs k no_leg).to ≡ true) n
      (λ k l. elim (cases_eq (get_or legs k no_leg).to leg.to) [
        | inl e ↦ subst (λ f. holds goals' f ≡ true) (sym e) has
        | inr ne ↦ others _ ne ∙ seen k l
      ])
      (subst (λ x. holds goals' x.to ≡ true) is has),
  λ f h. go f h (cases_eq f leg.to),
)
  where
    go : (f : ℕ) → holds goals' f ≡ true → (f ≡ leg.to) ⊎ (f ≡ leg.to → ⊥) → (k : ℕ) × (k < n + 1) × ((get_or legs k no_leg).to ≡ f)
    go f h (inl same) = (n, omega arith, ap (λ l. l.to) (sym is) ∙ sym same)
    go f h (inr other) = let (k, low, to) = only f (sym (others f other) ∙ h) in (k, omega arith, to)
