-- The words of the first of some causes that is told, cause by cause.
use Rattle.std.proofs.Common.{◌≡◌, ℕ, ◌+◌, ◌<◌, cond, List, length, get_or, drop, ◌==◌, sym, ap, ◌∙◌}
use Rattle.std.proofs.lemmas.Bool.{cond-true, cond-false, eq-eqb, ne_eqb}
use Rattle.std.proofs.lemmas.List.{drop_more}
use Rattle.hurzelma.specs.Words.{cause_number, cause_words, words_in}
use Rattle.hurzelma.specs.declared.words.Cause.{Cause}

module _ (cs : List Cause) (told k : ℕ) where
  -- none of the first k is told
  abbrev pub So : Type 0
  So = words_in cs told ≡ words_in (drop k cs) told

  module _ (d : Cause) (n : ℕ) (inside : k < length cs) (number : n ≡ cause_number (get_or cs k d)) (so : So) where
    next : words_in cs told ≡ cond (cause_number (get_or cs k d) == told) (cause_words (get_or cs k d)) (words_in (drop (k + 1) cs) told)
    next = so ∙ ap (λ l. words_in l told) (drop_more cs k d inside)

    pub here : (w : List ℕ) → w ≡ cause_words (get_or cs k d) → n ≡ told → w ≡ words_in cs told
    here w words e = words ∙ sym (next ∙ cond-true _ _ _ (eq-eqb _ _ (sym number ∙ e)))

    pub further : (n ≡ told → ⊥) → words_in cs told ≡ words_in (drop (k + 1) cs) told
    further e = next ∙ cond-false _ _ _ (ne_eqb _ _ (λ h. e (number ∙ h)))
