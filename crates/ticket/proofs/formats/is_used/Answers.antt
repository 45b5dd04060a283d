use Rattle.std.proofs.Common.{◌≡◌, ℕ, Bool, ◌||◌, List, [], ◌∷◌, Decides, refl, ap, ◌∙◌, rules}
use Rattle.std.specs.List.{list_any}
use Rattle.std.proofs.lemmas.Iterator.{YieldsList-from_slice}
use Rattle.std.proofs.lemmas.Iterator.Search.{any_from_yields_List}
use Rattle.std.proofs.lemmas.Slice.Eq.{compares_Decides}
use Rattle.std.proofs.lemmas.Bool.Decides.{same_from_decides}
use Rattle.ticket.specs.Said.{same_code, used}
use Rattle.ticket.proofs.formats.is_used.Goals as goal

used_by_any : (codes : List (List ℕ)) (code : List ℕ) → list_any (λ held. same_code held code) codes ≡ used codes code
used_by_any [] code = refl
used_by_any (c ∷ cs) code = ap (λ t. same_code c code || t) (used_by_any cs code)

compared : (held code : List ℕ) (b : Bool) → Decides b (held ≡ code) → b ≡ same_code held code
compared held code b d = same_from_decides b (same_code held code) d (compares_Decides same_code (search rules) held code)

pub returns : goal.returns
returns c =
    any_from_yields_List (λ held. same_code held c.args.code) _ _ _ c.any.ensures.ran (YieldsList-from_slice c.args.codes.now cc) (λ x b q k. (search rules, compared x.now c.args.code b (search rules)))
    ∙ used_by_any c.args.codes.now c.args.code
