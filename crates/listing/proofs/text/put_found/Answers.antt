use Rattle.std.proofs.Common.{◌≡◌, ℕ, List, [], ◌∷◌, length, codes, sym, refl, ◌∙◌}
use Rattle.std.proofs.lemmas.Bool.{eqb-false}
use Rattle.lines.specs.Grammar.{amount_text}
use Rattle.lines.specs.declared.line.Amount.{Amount}
use Rattle.listing.specs.Text.{found_text, fourccs_text, pieces}
use Rattle.listing.proofs.Lengths.{found_short}
use Rattle.listing.proofs.Writing.{writes_both, writes_is}
use Rattle.listing.proofs.text.put_found.Goals as goal

some_found : (fourccs : List (List ℕ)) (cost : Amount) (formats : List ℕ) → (length formats ≡ 0 → ⊥) → pieces (amount_text cost ∷ codes " (" ∷ fourccs_text fourccs formats ∷ codes ")" ∷ []) ≡ found_text fourccs cost formats
some_found fourccs cost [] n = absurd (n refl)
some_found fourccs cost (f ∷ fs) n = refl

pub returns-clause-written : goal.returns-clause-written
returns-clause-written c =
    writes_is (some_found c.args.codes.now c.args.cost c.args.formats.now (eqb-false (length c.args.formats.now) 0 (sym c.is_empty.ensures ∙ c.if-is_empty.false)))
    (writes_both c.put_amount.ensures.written
    (writes_both c.put-2.ensures
    (writes_both c.put_codes.ensures.written c.put-3.ensures)))

pub returns-clause-short : goal.returns-clause-short
returns-clause-short c = found_short c.args.codes.now c.args.cost c.args.formats.now c.put_amount.ensures.short c.put_codes.ensures.short c.requires
