use Rattle.std.proofs.Common.{◌≡◌, ℕ, [], IfOk, Ok, Result, sym, refl, ◌∙◌}
use lib.ListN.{length-map}
use Rattle.std.proofs.lemmas.Result.{MatchResult-at_ok, err_from_is_err_and}
use Rattle.registers.specs.Meaning.{enter_causes}
use Rattle.bay.specs.Bays.{plain}
use Rattle.bay.specs.Legs.{booked}
use Rattle.bay.specs.Plain.{book_causes, ends}
use Rattle.bay.specs.declared.fault.BayFault.{BayFault}
use Rattle.ticket.specs.Kinds.{read_as}
use Rattle.ticket.proofs.Taking.{refused_at, granted_at, orders_due, unfit_line, card_refused, leg_taken, leg_refused}
use Rattle.ticket.proofs.orders.read_order.Goals as goal

pub returns-in_err-read : goal.returns-in_err-read
returns-in_err-read g c =
    let q = err_from_is_err_and c.from_residual.result c.from_residual.ensures.1 in
    let p = plain c.args.bay.now in
    let legs = c.requires ∙ sym (length-map (booked c.args.bay.now.legs) ends) in
    rw (q.1, q.2) (λ codes h. unfit_line g.C.Cost (read_as c.args.kind g.C.TicketCost.reads) c.args.text.now _ c.args.at.place c.order_stage.result
    (orders_due (read_as c.args.kind g.C.TicketCost.reads) codes p c.args.at.legs c.order_stage.result h legs c.order_stage.ensures) c.in_err-read.field-0.0.byte _ c.in_err-read.ensures.line refl)

pub returns-in_err-at_byte-in-Card : goal.returns-in_err-at_byte-in-Card
returns-in_err-at_byte-in-Card g c =
    let q = err_from_is_err_and c.from_residual-in_err-at_byte-in-Card.result c.from_residual-in_err-at_byte-in-Card.ensures.1 in
    let p = plain c.args.bay.now in
    let legs = c.requires ∙ sym (length-map (booked c.args.bay.now.legs) ends) in
    rw (q.1, q.2) (card_refused g.C.Cost (read_as c.args.kind g.C.TicketCost.reads) c.args.text.now p p c.args.at.place c.order_stage.result c.args.at.legs legs c.order_stage.ensures
    c.in_ok-read.read c.in_ok-read.ensures.line [] [] c.in-Card.from c.in-Card.to c.in-Card.cost c.of_amount.result c.in_err-at_byte-in-Card.field-0.0 c.in-Card.is c.of_amount.ensures
    (refused_at c.args.at.place c.enter.result c.in_err-at_byte-in-Card.field-0.0 (enter_causes p.register c.in-Card.from c.in-Card.to (g.C.Cost.algebra.admits (g.C.Cost.value c.of_amount.result))) (sym c.at_byte.ensures ∙ c.in_err-at_byte-in-Card.was) c.enter.ensures.answer))

pub returns-in_err-number-in-Leg : goal.returns-in_err-number-in-Leg
returns-in_err-number-in-Leg g c =
    let q = err_from_is_err_and c.from_residual-in_err-number-in-Leg.result c.from_residual-in_err-number-in-Leg.ensures.1 in
    let p = plain c.args.bay.now in
    let legs = c.requires ∙ sym (length-map (booked c.args.bay.now.legs) ends) in
    rw (q.1, q.2) (leg_refused g.C.Cost (read_as c.args.kind g.C.TicketCost.reads) c.args.text.now p p c.args.at.place c.order_stage.result c.args.at.legs legs c.order_stage.ensures
    c.in_ok-read.read c.in_ok-read.ensures.line [] [] c.in-Leg.from c.in-Leg.to c.in_err-number-in-Leg.field-0.0 c.in-Leg.is
    (refused_at c.args.at.place c.book.result c.in_err-number-in-Leg.field-0.0 (book_causes p c.in-Leg.from c.in-Leg.to) (sym c.at_byte-in-Leg.ensures ∙ c.in_err-number-in-Leg.was) c.book.ensures.answer))

-- the number that a leg is answered with

number_is : (r : Result ℕ BayFault) (k n : ℕ) → r ≡ Ok k → IfOk r (λ j. j ≡ n) → k ≡ n
number_is r k n e h = MatchResult-at_ok (λ j. j ≡ n) (λ _. Unit {0}) k e h

pub returns-in_ok-number-in-Leg : goal.returns-in_ok-number-in-Leg
returns-in_ok-number-in-Leg g c =
    let p = plain c.args.bay.now in
    let legs = c.requires ∙ sym (length-map (booked c.args.bay.now.legs) ends) in
    let granted = granted_at c.args.at.place c.book.result c.in_ok-number-in-Leg.number (book_causes p c.in-Leg.from c.in-Leg.to) (sym c.at_byte-in-Leg.ensures ∙ c.in_ok-number-in-Leg.was) c.book.ensures.answer in
    leg_taken g.C.Cost (read_as c.args.kind g.C.TicketCost.reads) c.args.text.now p (plain c.book.new.self) c.args.at.place c.order_stage.result c.args.at.legs legs c.order_stage.ensures
    c.in_ok-read.read c.in_ok-read.ensures.line c.args.ends.now _ c.in-Leg.from c.in-Leg.to c.in_ok-number-in-Leg.number c.in-Leg.is granted.1 granted.2 c.book.ensures.after
    (number_is c.book.result c.in_ok-number-in-Leg.number _ granted.0 c.book.ensures.number ∙ sym (length-map (booked c.args.bay.now.legs) ends)) refl
