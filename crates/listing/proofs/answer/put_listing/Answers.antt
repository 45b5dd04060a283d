use Rattle.std.proofs.Common.{◌≡◌, ℕ, ◌+◌, ◌*◌, ◌≤◌, min, List, ◌++◌, length, map, get_or, take, sym, ap, ◌∙◌, add-one, arith, length-append, length-take}
use Rattle.std.proofs.lemmas.List.{get_or-take}
use Rattle.bay.specs.Limits.{most_legs}
use Rattle.bay.specs.Routes.{no_ends}
use Rattle.bay.specs.declared.legs.Ends.{Ends}
use Rattle.lines.specs.declared.line.Amount.{Amount}
use Rattle.listing.specs.Lengths.{most_line}
use Rattle.listing.specs.Text.{legs_text, leg_text, formats_of, no_amount}
use Rattle.listing.proofs.Lengths.{two_long}
use Rattle.listing.proofs.Writing.{writes_both, writes_is}
use Rattle.listing.proofs.answer.put_listing.Goals as goal

legs_more : (fourccs : List (List ℕ)) (ends : List Ends) (amounts : List Amount) (chains : List ℕ) (k : ℕ) →
    legs_text fourccs ends amounts chains k ++ leg_text fourccs k (get_or ends k no_ends) (get_or amounts k no_amount) (formats_of chains k) ≡ legs_text fourccs ends amounts chains (k + 1)
legs_more fourccs ends amounts chains k = sym (ap (legs_text fourccs ends amounts chains) (add-one k))

pub loop-k-preserved : goal.loop-k-preserved
loop-k-preserved g c =
    let fourccs = c.args.view.now.codes.now in
    let amounts = map g.C.TicketCost.writes c.args.view.now.costs.now in
    let ends = c.args.view.now.ends.now in
    let chains = c.args.view.now.chains.now in
    let k = c.loop-k.k in
    let leg = get_or (take c.min.result ends) k no_ends in
    let line = leg_text fourccs k (get_or ends k no_ends) (get_or amounts k no_amount) (formats_of chains k) in
    let line_is : leg_text fourccs k leg c.amount_at-cost.result c.row_formats.result.now ≡ line =
    ap (λ z. leg_text fourccs k leg z c.row_formats.result.now) c.amount_at-cost.ensures
    ∙ ap (leg_text fourccs k leg (get_or amounts k no_amount)) c.row_formats.ensures.formats
    ∙ ap (λ e. leg_text fourccs k e (get_or amounts k no_amount) (formats_of chains k)) (get_or-take c.min.result ends k no_ends (omega (arith, length-take c.min.result ends))) in
    let more = legs_more fourccs ends amounts chains k in
    let so_far = legs_text fourccs ends amounts chains k in
    let put : length (so_far ++ line) ≤ most_line * k + most_line = two_long so_far line (most_line * k) most_line c.loop-k.invariant.short (omega (arith, c.put_leg.ensures.short, ap length line_is)) in
    record {
      written = writes_is more (writes_both c.loop-k.invariant.written (writes_is line_is c.put_leg.ensures.written));
      short = omega (arith, put, ap length more);
    }

pub returns-clause-written : goal.returns-clause-written
returns-clause-written g c =
    let all : c.loop-k.k ≡ min c.args.legs most_legs = omega (arith, c.loop-k.auto.k-end, c.loop-k-test.false, c.min.ensures) in
    writes_both (writes_is (ap (legs_text c.args.view.now.codes.now c.args.view.now.ends.now (map g.C.TicketCost.writes c.args.view.now.costs.now) c.args.view.now.chains.now) all) c.loop-k.invariant.written)
    (writes_both c.put.ensures c.put-2.ensures)

pub returns-clause-short : goal.returns-clause-short
returns-clause-short g c =
    let all : c.loop-k.k ≡ min c.args.legs most_legs = omega (arith, c.loop-k.auto.k-end, c.loop-k-test.false, c.min.ensures) in
    let legs = legs_text c.args.view.now.codes.now c.args.view.now.ends.now (map g.C.TicketCost.writes c.args.view.now.costs.now) c.args.view.now.chains.now in
    let few : length (legs (min c.args.legs most_legs)) ≤ most_line * most_legs = omega (arith, c.loop-k.invariant.short, ap (λ k. length (legs k)) all, all) in
    simp length-append (omega (arith, few))
