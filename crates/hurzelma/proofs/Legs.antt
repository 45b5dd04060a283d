-- The legs in front that can be booked.
use Rattle.std.proofs.Common.{◌≡◌, ℕ, ◌+◌, ◌<◌, ◌≤◌, Bool, true, false, cond, List, length, get_or, drop, ap, ◌∙◌, arith}
use Rattle.std.specs.List.{prefix_len}
use Rattle.std.proofs.lemmas.List.{drop_more, drop_all}
use Rattle.bay.specs.declared.legs.Ends.{Ends}

module _ (p : Ends → Bool) (legs : List Ends) (k : ℕ) where
  -- so many of them, if none of the first k is refused
  abbrev pub So : Type 0
  So = prefix_len p legs ≡ k + prefix_len p (drop k legs)

  next : (d : Ends) → k < length legs → prefix_len p (drop k legs) ≡ cond (p (get_or legs k d)) (1 + prefix_len p (drop (k + 1) legs)) 0
  next d h = ap (prefix_len p) (drop_more legs k d h)

  pub one_more : (d : Ends) → k < length legs → p (get_or legs k d) ≡ true → So → prefix_len p legs ≡ (k + 1) + prefix_len p (drop (k + 1) legs)
  one_more d h t so =
      let e = next d h ∙ ap (λ b. cond b (1 + prefix_len p (drop (k + 1) legs)) 0) t in
      omega (arith, so, e)

  pub no_more : (d : Ends) → k < length legs → p (get_or legs k d) ≡ false → So → prefix_len p legs ≡ k
  no_more d h f so =
      let e = next d h ∙ ap (λ b. cond b (1 + prefix_len p (drop (k + 1) legs)) 0) f in
      omega (arith, so, e)

  pub all : length legs ≤ k → So → prefix_len p legs ≡ k
  all h so =
      let e = ap (prefix_len p) (drop_all k legs h) in
      omega (arith, so, e)
