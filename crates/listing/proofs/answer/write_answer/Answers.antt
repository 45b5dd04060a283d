use Rattle.std.proofs.Common.{map, ◌≡◌, ◌<◌, [], ◌++◌, length, drop, refl, ◌∙◌, arith, rules}
use Rattle.listing.specs.Output.{most_length}
use Rattle.listing.specs.Text.{answer_text}
use Rattle.listing.proofs.Writing.{printed}
use Rattle.listing.proofs.answer.write_answer.Goals as goal

pub returns-then-length-place-clause-printed : goal.returns-then-length-place-clause-printed
returns-then-length-place-clause-printed g c = (
  c.finish-length.ensures.count ∙ (c.put_answer.ensures.written.adds [] [] c.new-count.ensures.holds).count,
  c.if-length-place.true,
  refl,
)

pub returns-clause-printed : goal.returns-clause-printed
returns-clause-printed g c =
    let text = answer_text c.args.view.codes.now c.args.view.ends.now (map g.C.TicketCost.writes c.args.view.costs.now) c.args.view.chains.now c.args.answer.now in
    let counted = c.finish-length.ensures.count ∙ (c.put_answer.ensures.written.adds [] [] c.new-count.ensures.holds).count in
    let short : length c.args.place.now < most_length = omega arith in
    let done = printed c.args.place.now text c.put_answer-2.new.out c.finish-length.result (c.put_answer-2.ensures.written.adds c.args.place.now [] c.new-out.ensures.holds) counted (omega (arith, c.if-length-place.false)) short in
    let left : c.finish.new.self.0 ≡ text ++ drop (length text) c.args.place.now = c.finish.ensures.left ∙ done.1 in
    let same = c.put_answer-2.ensures.written.same ∙ c.new-out.ensures.lent in
    (c.finish.ensures.count ∙ done.0, search rules)

pub returns-then-length-place-clause-brief : goal.returns-then-length-place-clause-brief
returns-then-length-place-clause-brief g c =
    let long = c.finish-length.ensures.count ∙ (c.put_answer.ensures.written.adds [] [] c.new-count.ensures.holds).count in
    (c.if-length-place.true, omega (arith, long, c.put_answer.ensures.short))

pub returns-clause-brief : goal.returns-clause-brief
returns-clause-brief g c =
    omega (arith, c.finish.ensures.count ∙ (c.put_answer-2.ensures.written.adds c.args.place.now [] c.new-out.ensures.holds).count, c.put_answer-2.ensures.short)
