use Rattle.std.proofs.Common.{inr, sym, subst}
use Rattle.listing.specs.Answered.{ListedAs}
use Rattle.listing.proofs.on_stack.answer_on_stack.Goals as goal

pub returns-in-Delay-clause-listed : goal.returns-in-Delay-clause-listed
returns-in-Delay-clause-listed c =
    let listed = subst (λ k. ListedAs k c.args.text.now c.in-Ok.bay c.args.place.now c.answer_delays.new.place c.answer_delays.result) (sym c.in-Delay.is) c.answer_delays.ensures.listed in
    inr (c.in-Ok.bay, c.in-Ok.ensures, listed)

pub returns-in-Depth-clause-listed : goal.returns-in-Depth-clause-listed
returns-in-Depth-clause-listed c =
    let listed = subst (λ k. ListedAs k c.args.text.now c.in-Ok.bay c.args.place.now c.answer_depths.new.place c.answer_depths.result) (sym c.in-Depth.is) c.answer_depths.ensures.listed in
    inr (c.in-Ok.bay, c.in-Ok.ensures, listed)

pub returns-in-Both-clause-listed : goal.returns-in-Both-clause-listed
returns-in-Both-clause-listed c =
    let listed = subst (λ k. ListedAs k c.args.text.now c.in-Ok.bay c.args.place.now c.answer_boths.new.place c.answer_boths.result) (sym c.in-Both.is) c.answer_boths.ensures.listed in
    inr (c.in-Ok.bay, c.in-Ok.ensures, listed)
