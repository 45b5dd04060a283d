use Rattle.std.proofs.Common.{[], take, refl, inl, inr, arith}
use Rattle.std.proofs.lemmas.List.{length-take-le}
use Rattle.std.proofs.lemmas.Result.{err_from_is_err_and}
use Rattle.bay.specs.Bays.{legs as bay_legs, plain}
use Rattle.ticket.specs.Faults.{told_by}
use Rattle.ticket.specs.Kinds.{read_as}
use Rattle.ticket.specs.Said.{said}
use Rattle.ticket.proofs.Serving.{front_is, stops_after, completes_after}
use Rattle.ticket.proofs.serve.route_lines.Goals as goal

pub returns-in_err-end-clause-answer : goal.returns-in_err-end-clause-answer
returns-in_err-end-clause-answer g c =
    let q = err_from_is_err_and c.from_residual-in_err-end.result c.from_residual-in_err-end.ensures.1 in
    let p = plain c.args.bay.now in
    let formats = c.in_ok-orders.ensures.answer in
    let long = length-take-le c.args.n c.read_formats.new.codes (omega (arith, c.read_formats.ensures.long, c.requires.few)) in
    rw (q.1, q.2) (inl (record {
      refusal = c.in_err-end.field-0.0;
      stops = stops_after g.C.Cost (read_as c.args.kind g.C.TicketCost.reads) c.args.text.now (said [] p) c.args.from formats.lines c.in_ok-orders.orders (said (take c.args.n c.read_formats.new.codes) p)
          (formats.through (read_as c.args.kind g.C.TicketCost.reads) p c.requires.size) (told_by c.in_err-end.field-0.0) (c.in_err-end.ensures.answer (take c.args.n c.read_formats.new.codes) (omega (arith, long, c.requires.size)));
      answers = refl;
      untouched = refl;
    }))

pub returns-clause-answer : goal.returns-clause-answer
returns-clause-answer g c =
    let p = plain c.args.bay.now in
    let p' = plain c.read_orders.new.bay in
    let formats = c.in_ok-orders.ensures.answer in
    let orders = c.in_ok-end.ensures.answer in
    let codes = take c.args.n c.read_formats.new.codes in
    let long = length-take-le c.args.n c.read_formats.new.codes (omega (arith, c.read_formats.ensures.long, c.requires.few)) in
    inr (record {
      place = c.in_ok-end.end;
      then = said codes p';
      completes = completes_after g.C.Cost (read_as c.args.kind g.C.TicketCost.reads) c.args.text.now (said [] p) c.args.from formats.lines c.in_ok-orders.orders (said codes p)
          (formats.through (read_as c.args.kind g.C.TicketCost.reads) p c.requires.size) c.in_ok-end.end (said codes p') (orders.completes codes (omega (arith, long, c.requires.size)));
      legs = bay_legs c.read_orders.new.bay;
      noted = bay_legs c.route.new.self;
      result = c.route.result;
      route = c.route.ensures.answer;
      answers = c.at_byte.ensures;
      codes = front_is c.args.n c.read_formats.new.codes c.args.codes.now long formats.beyond;
      ends = orders.written;
    })
