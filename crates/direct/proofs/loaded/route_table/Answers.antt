-- The bay is one over the table under the bar, and its legs are booked as those of every route without a ticket.
use Rattle.std.proofs.Common.{sym, ap, refl, subst, inl, inr, ◌∙◌}
use Rattle.std.proofs.lemmas.Result.{err_from_is_err_and}
use Rattle.registers.specs.Bar.{barred}
use Rattle.tables.specs.Tables.{table_of}
use Rattle.bay.specs.Bays.{legs}
use Rattle.bay.specs.Buffers.{buffers}
use Rattle.bay.specs.Faults.{bay_code, refused}
use Rattle.bay.specs.Routing.{RouteAnswer}
use Rattle.direct.specs.Cards.{booking_cause, with_more}
use Rattle.direct.specs.Loaded.{bay_barred}
use Rattle.direct.proofs.Booking.{booked_no_loop, new_bay}
use Rattle.direct.proofs.OverTable.{held_by, over_held}
use Rattle.direct.proofs.loaded.route_table.Goals as goal

pub returns-in_err-book_all : goal.returns-in_err-book_all
returns-in_err-book_all c =
    let held = ap held_by c.new-bay.ensures.register ∙ over_held c.new-2.result c.new.result c.args.bars c.new-2.ensures.below c.new-2.ensures.view in
    let made = new_bay c.new-bay.result (barred c.args.bars.bits (table_of c.new.result.table.numbers.now)) held c.new-bay.ensures.legs in
    let told = ap (λ p. booking_cause p c.args.legs.now) (sym made) ∙ sym c.in_err-book_all.ensures.answers in
    let q = err_from_is_err_and c.from_residual.result c.from_residual.ensures.1 in
    rw (q.1, q.2) (record {
      table = table_of c.new.result.table.numbers.now;
      made = c.new.ensures;
      routed = inl (record {
        cause = bay_code c.in_err-book_all.field-0.0;
        holds = told;
        answers = refl;
        same = refl;
      });
      no_loop = λ e. booked_no_loop (bay_barred c.args.bars.bits (table_of c.new.result.table.numbers.now)) c.args.legs.now (told ∙ ap refused e);
    })

pub returns : goal.returns
returns c =
    let held = ap held_by c.new-bay.ensures.register ∙ over_held c.new-2.result c.new.result c.args.bars c.new-2.ensures.below c.new-2.ensures.view in
    let made = new_bay c.new-bay.result (barred c.args.bars.bits (table_of c.new.result.table.numbers.now)) held c.new-bay.ensures.legs in
    let booked = c.in_ok-book_all.ensures in
    let grown = booked.booked (sym booked.answers) ∙ ap (λ p. with_more p c.args.legs.now) made in
    record {
      table = table_of c.new.result.table.numbers.now;
      made = c.new.ensures;
      routed = inr (record {
        no_cause = ap (λ p. booking_cause p c.args.legs.now) (sym made) ∙ sym booked.answers;
        booked = legs c.book_all.new.bay;
        noted = legs c.route_gainless.new.bay;
        route = subst (λ p. RouteAnswer p (legs c.book_all.new.bay) (legs c.route_gainless.new.bay) (buffers c.args.table.now c.args.costs.now c.args.chains.now) (buffers c.route_gainless.new.table c.route_gainless.new.costs c.route_gainless.new.chains) c.route_gainless.result) grown c.route_gainless.ensures.answer;
      });
      no_loop = c.route_gainless.ensures.never;
    }
