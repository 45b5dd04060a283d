-- The formats of a row, cut out of the sheet.
use Rattle.std.proofs.Common.{◌≡◌, ℕ, ◌+◌, ◌-◌, ◌*◌, min, List, length, take, drop, sym, ap, ◌∙◌, inl, inr, arith, length-drop}
use Rattle.std.proofs.lemmas.List.{take_all, drop_all}
use Rattle.std.proofs.lemmas.Bool.{cases_lt}
use Rattle.bay.specs.Sheet.{row_at, row_bytes}

-- as many as there are, and no more
pub take_min : {X : Type 0} (xs : List X) (n m : ℕ) → m ≡ min (length xs) n → take m xs ≡ take n xs
take_min xs n m e = elim (cases_lt (length xs) n) [
  | inl h ↦ take_all m xs (omega (arith, e, h)) ∙ sym (take_all n xs (omega (arith, h)))
  | inr h ↦ ap (λ k. take k xs) (let same : m ≡ n = omega (arith, e, h) in same)
]

pub row_is : (chains : List ℕ) (k start end : ℕ) → start ≡ min (length chains) (row_bytes * k) → end ≡ min (length chains) (row_bytes * k + row_bytes) → take (end - start) (drop start chains) ≡ row_at chains k
row_is chains k start end s e = elim (cases_lt (length chains) (row_bytes * k)) [
  | inl h ↦
      let none : end - start ≡ 0 = omega (arith, s, e, h) in
      ap (λ n. take n (drop start chains)) none ∙ sym (ap (take row_bytes) (drop_all (row_bytes * k) chains (omega (arith, h))))
  | inr h ↦
      let start_is : start ≡ row_bytes * k = omega (arith, s, h) in
      let long : end - start ≡ min (length (drop start chains)) row_bytes = omega (arith, s, e, h, length-drop start chains) in
      take_min (drop start chains) row_bytes (end - start) long ∙ ap (λ n. take row_bytes (drop n chains)) start_is
]
