use Rattle.std.proofs.Common.{◌≡◌, ◌++◌, ◌<◌, [], length, drop, refl, ap, ◌∙◌, arith, rules}
use Rattle.ticket.specs.Faults.{ticket_code}
use Rattle.listing.specs.Output.{most_length}
use Rattle.listing.specs.Text.{code_line}
use Rattle.listing.proofs.Writing.{printed, writes_is}
use Rattle.listing.proofs.answer.write_refusal.Goals as goal

pub returns-then-needed-place-clause-printed : goal.returns-then-needed-place-clause-printed
returns-then-needed-place-clause-printed c =
    let put = writes_is (ap (λ x. code_line x c.args.refusal.byte) c.code.ensures) c.put_code_line.ensures.written in
    (c.finish-needed.ensures.count ∙ (put.adds [] [] c.new-count.ensures.holds).count, c.if-needed-place.true, refl)

pub returns-clause-printed : goal.returns-clause-printed
returns-clause-printed c =
    let text = code_line (ticket_code c.args.refusal.fault) c.args.refusal.byte in
    let put = writes_is (ap (λ x. code_line x c.args.refusal.byte) c.code.ensures) c.put_code_line.ensures.written in
    let counted = c.finish-needed.ensures.count ∙ (put.adds [] [] c.new-count.ensures.holds).count in
    let short : length c.args.place.now < most_length = omega arith in
    let again = writes_is (ap (λ x. code_line x c.args.refusal.byte) c.code-2.ensures) c.put_code_line-2.ensures.written in
    let done = printed c.args.place.now text c.put_code_line-2.new.out c.finish-needed.result (again.adds c.args.place.now [] c.new-out.ensures.holds) counted (omega (arith, c.if-needed-place.false)) short in
    let left : c.finish.new.self.0 ≡ text ++ drop (length text) c.args.place.now = c.finish.ensures.left ∙ done.1 in
    let same = again.same ∙ c.new-out.ensures.lent in
    (c.finish.ensures.count ∙ done.0, search rules)

pub returns-then-needed-place-clause-brief : goal.returns-then-needed-place-clause-brief
returns-then-needed-place-clause-brief c =
    let long = c.finish-needed.ensures.count ∙ (c.put_code_line.ensures.written.adds [] [] c.new-count.ensures.holds).count in
    (c.if-needed-place.true, omega (arith, long, c.put_code_line.ensures.short))

pub returns-clause-brief : goal.returns-clause-brief
returns-clause-brief c =
    omega (arith, c.finish.ensures.count ∙ (c.put_code_line-2.ensures.written.adds c.args.place.now [] c.new-out.ensures.holds).count, c.put_code_line-2.ensures.short)
