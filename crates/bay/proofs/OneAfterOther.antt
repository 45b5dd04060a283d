-- Calls that are made one after the other keep the law: by recursion over the calls, since the plain bay and the legs after the
-- first call are where the rest begins.
use Rattle.std.proofs.Common.{zero, suc, [], ◌∷◌, map, get_or, take, refl, subst₂, le_of_suc-le-suc, arith}
use Rattle.costs.specs.declared.Cost.{Ghosts as Kind}
use Rattle.bay.specs.Runs.{OneByOne, Right, call_of, legs_after, no_call, plain_after}
use Rattle.bay.proofs.Answering.{told}

pub one_by_one : {C : Type 0} (K : Kind C) → OneByOne K
one_by_one K p legs [] given i h = absurd (omega arith)
one_by_one K p legs (m ∷ ms) (p', legs', called, rest) zero h = (told p legs legs' m.call m.answer m.before m.after _ refl p' called).0
one_by_one K p legs (m ∷ ms) (p', legs', called, rest) (suc i) h =
    let now = told p legs legs' m.call m.answer m.before m.after _ refl p' called in
    subst₂ (λ q l. Right (plain_after q (take i (map call_of ms))) (legs_after l (take i ms)) (get_or ms i no_call)) called.plain_is now.1
    (one_by_one K p' legs' ms rest i (le_of_suc-le-suc h))
