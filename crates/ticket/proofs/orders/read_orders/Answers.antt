use Rattle.std.proofs.Common.{◌≡◌, [], length, map, Ok, sym, refl, ap, subst, arith}
use Rattle.std.proofs.lemmas.Result.{err_from_is_err_and}
use Rattle.bay.specs.Bays.{plain}
use Rattle.bay.specs.Buffers.{in_front}
use Rattle.bay.specs.Plain.{ends}
use Rattle.ticket.specs.Faults.{told_by}
use Rattle.ticket.specs.Kinds.{read_as}
use Rattle.ticket.specs.Steps.{OrderAnswer, OrderTaken}
use Rattle.ticket.proofs.Taking.{orders_more, orders_stop, order_advances}
use Rattle.ticket.proofs.orders.read_orders.Given.{Over}
use Rattle.ticket.proofs.orders.read_orders.Goals as goal

pub returns-in_err-next-clause-answer : goal.returns-in_err-next-clause-answer
returns-in_err-next-clause-answer g c =
    let q = err_from_is_err_and c.from_residual.result c.from_residual.ensures.1 in
    rw (q.1, q.2)
    (orders_stop g.C.Cost (read_as c.args.kind g.C.TicketCost.reads) c.args.text.now c.args.from
    (plain c.args.bay.now) (plain c.loop-next.bay) c.args.ends.now c.loop-next.ends c.loop-next.at c.loop-next.invariant
    (told_by c.in_err-next.field-0.0) c.in_err-next.ensures)

taken_here : (g : Over) (c : goal.In-Some g) →
    OrderTaken g.C.Cost (read_as c.args.kind g.C.TicketCost.reads) c.args.text.now c.loop-next.at.place (plain c.loop-next.bay)
    (plain c.read_order.new.bay) c.loop-next.ends c.read_order.new.ends c.in-Some.next
taken_here g c =
    subst (λ o. OrderAnswer g.C.Cost (read_as c.args.kind g.C.TicketCost.reads) c.args.text.now c.loop-next.at.place (plain c.loop-next.bay)
    (plain c.read_order.new.bay) c.loop-next.ends c.read_order.new.ends (Ok o)) c.in-Some.is c.in_ok-next.ensures

pub loop-next-smaller : goal.loop-next-smaller
loop-next-smaller g c =
    let on = order_advances g.C.Cost (read_as c.args.kind g.C.TicketCost.reads) c.args.text.now c.loop-next.at.place (plain c.loop-next.bay)
    (plain c.read_order.new.bay) c.loop-next.ends c.read_order.new.ends c.in-Some.next (taken_here g c) in
    omega (arith, on.0, on.1)

pub loop-next-preserved : goal.loop-next-preserved
loop-next-preserved g c =
    orders_more g.C.Cost (read_as c.args.kind g.C.TicketCost.reads) c.args.text.now c.args.from
    (plain c.args.bay.now) (plain c.loop-next.bay) c.args.ends.now c.loop-next.ends c.loop-next.at c.loop-next.invariant
    (plain c.read_order.new.bay) c.read_order.new.ends c.in-Some.next c.told-ends (taken_here g c)

pub loop-next-init : goal.loop-next-init
loop-next-init g c =
    let none : (plain c.args.bay.now).legs ≡ [] = ap (map ends) c.requires in
    record {
      lines = [];
      through = λ codes h. (refl, refl);
      size = refl;
      written = ap (λ l. in_front l c.args.ends.now) (sym none);
      legs_are = ap length (sym none);
    }
