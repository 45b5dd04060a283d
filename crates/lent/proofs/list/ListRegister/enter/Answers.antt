-- A pair that has an entry keeps its place; a new one is put in where its place is.
use Rattle.std.proofs.Common.{◌+◌, sym, refl, ap, subst, ◌∙◌, arith}
use Rattle.std.proofs.lemmas.Bool.{and_parts}
use Rattle.costs.specs.Kind.{admits}
use Rattle.registers.specs.Meaning.{meant}
use Rattle.lent.specs.List.{listed, InOrder}
use Rattle.lent.proofs.Ordered.{sorted_put, is_for_cost}
use Rattle.lent.proofs.Listed.{entry_lives, entered_over, entered_between, full, sorted_between}
use Rattle.lent.proofs.list.ListRegister.enter.Goals as goal

pub invariant_of-self : goal.invariant_of-self
invariant_of-self g c =
    let l = c.args.self.now in
    let sorted : InOrder (admits g.C.Cost) l.n l.count l.entries.now = record { few = l.few; live = l.live; rise = l.rise; clear = l.clear (sym c.if-not-list_fits.ensures) } in
    let fine = and_parts _ _ (sym c.in_ok-judge_entry.ensures.fine) in
    let lives = entry_lives g.C.Cost l.n l.entries.now c.args.from c.args.to _ c.size.ensures.value fine.0 c.if-not-list_fits.ensures l.count sorted c.args.cost fine.1 in
    let put = sorted_put (admits g.C.Cost) l.n l.count c.in-Ok.place l.entries.now _ sorted c.in-Ok.ensures.0 lives (is_for_cost (admits g.C.Cost) l.n _ c.args.from c.args.to c.in-Ok.ensures.2) in
    record { few = put.few; live = put.live; rise = put.rise; clear = λ _. put.clear }

pub returns-in-Ok : goal.returns-in-Ok
returns-in-Ok g c =
    let l = c.args.self.now in
    let sorted : InOrder (admits g.C.Cost) l.n l.count l.entries.now = record { few = l.few; live = l.live; rise = l.rise; clear = l.clear (sym c.if-not-list_fits.ensures) } in
    let fine = and_parts _ _ (sym c.in_ok-judge_entry.ensures.fine) in
    let done = entered_over g.C.Cost l.n l.entries.now c.args.from c.args.to _ c.size.ensures.value fine.0 c.if-not-list_fits.ensures l.count sorted c.args.cost fine.1 c.in-Ok.place c.in-Ok.ensures in
    record { answer = done.0; after = done.1; memory = done.2; size = refl; lent = refl }

pub returns-then-self-clause-answer : goal.returns-then-self-clause-answer
returns-then-self-clause-answer g c =
    let l = c.args.self.now in
    let sorted : InOrder (admits g.C.Cost) l.n l.count l.entries.now = record { few = l.few; live = l.live; rise = l.rise; clear = l.clear (sym c.if-not-list_fits.ensures) } in
    let fine = and_parts _ _ (sym c.in_ok-judge_entry.ensures.fine) in
    full g.C.Cost l.n l.entries.now c.args.from c.args.to _ c.size.ensures.value fine.0 c.if-not-list_fits.ensures l.count sorted c.args.cost fine.1 c.in-Err.place c.in-Err.ensures c.if-self.true

pub invariant_of-self-in-Err : goal.invariant_of-self-in-Err
invariant_of-self-in-Err g c =
    let l = c.args.self.now in
    let sorted : InOrder (admits g.C.Cost) l.n l.count l.entries.now = record { few = l.few; live = l.live; rise = l.rise; clear = l.clear (sym c.if-not-list_fits.ensures) } in
    let fine = and_parts _ _ (sym c.in_ok-judge_entry.ensures.fine) in
    let lives = entry_lives g.C.Cost l.n l.entries.now c.args.from c.args.to _ c.size.ensures.value fine.0 c.if-not-list_fits.ensures l.count sorted c.args.cost fine.1 in
    let put = sorted_between (admits g.C.Cost) l.n l.count c.in-Err.place l.entries.now sorted c.args.from c.args.to c.in-Err.ensures c.args.cost (omega (arith, l.few, c.if-self.false)) lives in
    let rewritten : InOrder (admits g.C.Cost) l.n (l.count + 1) c.shift_up.new.entries = subst (InOrder (admits g.C.Cost) l.n (l.count + 1)) (sym c.shift_up.ensures) put in
    record { few = rewritten.few; live = rewritten.live; rise = rewritten.rise; clear = λ _. rewritten.clear }

pub returns-else-self : goal.returns-else-self
returns-else-self g c =
    let l = c.args.self.now in
    let sorted : InOrder (admits g.C.Cost) l.n l.count l.entries.now = record { few = l.few; live = l.live; rise = l.rise; clear = l.clear (sym c.if-not-list_fits.ensures) } in
    let fine = and_parts _ _ (sym c.in_ok-judge_entry.ensures.fine) in
    let done = entered_between g.C.Cost l.n l.entries.now c.args.from c.args.to _ c.size.ensures.value fine.0 c.if-not-list_fits.ensures l.count sorted c.args.cost fine.1 c.in-Err.place c.in-Err.ensures (omega (arith, l.few, c.if-self.false)) in
    record { answer = done.0; after = ap (λ es. meant g.C.Cost (listed (admits g.C.Cost) l.n es)) c.shift_up.ensures ∙ done.1; memory = c.shift_up.ensures ∙ done.2; size = refl; lent = refl }
