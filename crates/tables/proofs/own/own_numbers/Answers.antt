-- Number after number is written.
use Rattle.std.proofs.Common.{◌≡◌, ℕ, ◌+◌, ◌<◌, List, length, get_or, set, ℤ, ◌∙◌, arith, below_more, length-set, w32, SFits, rules}
use Rattle.std.proofs.lemmas.Int.{to_z-of_z}
use Rattle.std.proofs.lemmas.List.{same_lists, get_or-set_other, get_or-set_same, get_or_default}
use Rattle.tables.specs.Tables.{no_card, own_numbers}
use Rattle.tables.proofs.own.own_numbers.Goals as goal

written : (xs ys : List ℤ) (d : ℤ) (i : ℕ) (z : ℤ) → i < length xs → ((k : ℕ) → k < i → get_or xs k d ≡ get_or ys k d) → z ≡ get_or ys i d →
    (k : ℕ) → k < i + 1 → get_or (set xs i z) k d ≡ get_or ys k d
written xs ys d i z l held is =
    below_more (λ k. get_or (set xs i z) k d ≡ get_or ys k d) i
    (λ k m. let ne : k ≡ i → ⊥ = λ e. absurd (omega arith) in get_or-set_other xs i k z d ne ∙ held k m)
    (get_or-set_same xs i z d l ∙ is)

pub loop-index-preserved : goal.loop-index-preserved
loop-index-preserved c =
    let fits : SFits w32 c.own_number.result = search rules in
    let long = c.loop-index.invariant.long in
    record {
      long = length-set _ _ _ ∙ long;
      held = written c.loop-index.numbers own_numbers no_card c.loop-index.index _ (omega arith) c.loop-index.invariant.held (to_z-of_z w32 _ fits ∙ c.own_number.ensures);
    }

pub returns : goal.returns
returns c =
    let long = c.loop-index.invariant.long in
    same_lists c.loop-index.numbers own_numbers long
    (λ k d l. get_or_default c.loop-index.numbers k d no_card l ∙ c.loop-index.invariant.held k (omega arith) ∙ get_or_default own_numbers k no_card d (omega arith))
