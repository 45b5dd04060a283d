-- Text after text in a place of bytes.
use Rattle.std.proofs.Common.{◌≡◌, ℕ, ◌+◌, ◌-◌, ◌<◌, ◌≤◌, min, List, [], ◌++◌, length, take, drop, sym, refl, ap, ◌∙◌, subst, arith, length-append, length-drop, length-take}
use borrow.Rule.Slice.PartMut.{put_mid}
use Rattle.std.proofs.lemmas.List.{append_assoc, append-nil, drop_at, drop-drop, take_at}
use Rattle.listing.specs.Output.{Holds, Writes, most_length}
use Rattle.listing.specs.declared.output.Output.{Output}

module _ (base text more bytes : List ℕ) (count end : ℕ) (count_is : count ≡ min (length text) most_length) (long : length bytes ≡ length base) (written : length text ≤ length base → bytes ≡ text ++ drop (length text) base)
    (end_is : end ≡ min (count + length more) most_length) where
  length_both : length (text ++ more) ≡ length text + length more
  length_both = length-append text more

  pub counted : end ≡ min (length (text ++ more)) most_length
  counted = omega (arith, count_is, end_is, length_both)

  -- there is room
  module _ (short : length bytes ≤ most_length) (fits : end ≤ length bytes) (exact : length more ≡ end - count) where
    pub long_put : length (put_mid count (end - count) bytes more) ≡ length base
    long_put =
        length-append (take count bytes) (more ++ drop (end - count) (drop count bytes))
        ∙ ap (λ n. length (take count bytes) + n) (length-append more (drop (end - count) (drop count bytes)))
        ∙ simp (length-take, length-drop) (omega (arith, count_is, end_is, exact, fits, long))

    pub written_put : length (text ++ more) ≤ length base → put_mid count (end - count) bytes more ≡ (text ++ more) ++ drop (length (text ++ more)) base
    written_put h =
        let count_text : count ≡ length text = omega (arith, count_is, length_both, h, long, short) in
        let more_is : end - count ≡ length more = sym exact in
        let bytes_are : bytes ≡ text ++ drop (length text) base = written (omega (arith, length_both, h)) in
        ap (λ n. take n bytes ++ (more ++ drop (end - count) (drop n bytes))) count_text
        ∙ ap (λ n. take (length text) bytes ++ (more ++ drop n (drop (length text) bytes))) more_is
        ∙ ap (λ b. take (length text) b ++ (more ++ drop (length more) (drop (length text) b))) bytes_are
        ∙ ap (λ t. t ++ (more ++ drop (length more) (drop (length text) (text ++ drop (length text) base)))) (take_at text (drop (length text) base) (length text) refl)
        ∙ ap (λ d. text ++ (more ++ drop (length more) d)) (drop_at text (drop (length text) base) (length text) refl)
        ∙ ap (λ d. text ++ (more ++ d)) (drop-drop (length more) (length text) base ∙ ap (λ n. drop n base) (sym length_both))
        ∙ sym (append_assoc text more (drop (length (text ++ more)) base))

  -- there is not
  pub no_room : length bytes < end → length (text ++ more) ≤ length base → ⊥
  no_room h k = omega (arith, count_is, end_is, length_both, long)

-- one text, and then another
pub writes_none : (o : Output) → Writes o o []
writes_none o = record { adds = λ base text h. subst (λ t. Holds base t o) (sym (append-nil text)) h; same = refl }

pub writes_both : {o o' o'' : Output} {a b : List ℕ} → Writes o o' a → Writes o' o'' b → Writes o o'' (a ++ b)
writes_both {o} {o'} {o''} {a} {b} p q = record {
  adds = λ base text h. subst (λ t. Holds base t o'') (append_assoc text a b) (q.adds base (text ++ a) (p.adds base text h));
  same = q.same ∙ p.same;
}

pub writes_is : {o o' : Output} {a b : List ℕ} → a ≡ b → Writes o o' a → Writes o o' b
writes_is {o} {o'} e p = subst (Writes o o') e p

-- the text from the start of a place
pub printed : (base text : List ℕ) (o : Output) (n : ℕ) → Holds base ([] ++ text) o → n ≡ min (length text) most_length → n ≤ length base → length base < most_length →
    (o.count ≡ length text) × (o.bytes.now ≡ text ++ drop (length text) base)
printed base text o n h count fits short = (omega (arith, h.count, count, fits, short), h.written (omega (arith, count, fits, short)))
