-- The entry that is found is taken out.
use Rattle.std.proofs.Common.{◌≡◌, ◌-◌, Ok, sym, refl, ap, subst, ◌∙◌, rules}
use Rattle.costs.specs.Kind.{admits}
use Rattle.registers.specs.Meaning.{meant}
use Rattle.lent.specs.List.{listed, FoundAt, InOrder}
use Rattle.std.proofs.lemmas.Result.{MatchResult-at_ok}
use Rattle.lent.proofs.Ordered.{sorted_down}
use Rattle.lent.proofs.Listed.{withdrawn_from}
use Rattle.lent.proofs.list.ListRegister.withdraw.Goals as goal

pub invariant_of-self : goal.invariant_of-self
invariant_of-self g c =
    let l = c.args.self.now in
    let sorted : InOrder (admits g.C.Cost) l.n l.count l.entries.now = record { few = l.few; live = l.live; rise = l.rise; clear = l.clear (sym c.if-not-list_fits.ensures) } in
    let is : c.search.result ≡ Ok c.in_ok-place.place = search rules in
    let found : FoundAt (admits g.C.Cost) l.n l.count l.entries.now c.args.from c.args.to c.in_ok-place.place = MatchResult-at_ok _ _ _ is c.search.ensures in
    let left : InOrder (admits g.C.Cost) l.n (l.count - 1) c.shift_down.new.entries = subst (InOrder (admits g.C.Cost) l.n (l.count - 1)) (sym c.shift_down.ensures) (sorted_down (admits g.C.Cost) l.n l.count c.in_ok-place.place l.entries.now sorted found.0) in
    record { few = left.few; live = left.live; rise = left.rise; clear = λ _. left.clear }

pub returns : goal.returns
returns g c =
    let l = c.args.self.now in
    let sorted : InOrder (admits g.C.Cost) l.n l.count l.entries.now = record { few = l.few; live = l.live; rise = l.rise; clear = l.clear (sym c.if-not-list_fits.ensures) } in
    let is : c.search.result ≡ Ok c.in_ok-place.place = search rules in
    let found : FoundAt (admits g.C.Cost) l.n l.count l.entries.now c.args.from c.args.to c.in_ok-place.place = MatchResult-at_ok _ _ _ is c.search.ensures in
    let done = withdrawn_from g.C.Cost l.n l.entries.now c.args.from c.args.to _ c.size.ensures.value (sym c.in_ok-judge_pair.ensures.fine) c.if-not-list_fits.ensures l.count sorted c.in_ok-place.place found in
    record { answer = done.0; after = ap (λ es. meant g.C.Cost (listed (admits g.C.Cost) l.n es)) c.shift_down.ensures ∙ done.1; memory = c.shift_down.ensures ∙ done.2; size = refl; lent = refl }
