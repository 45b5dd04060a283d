use Rattle.std.proofs.Common.{sym, ap, refl, inl, ◌∙◌}
use Rattle.std.proofs.lemmas.Result.{err_from_is_err_and}
use Rattle.registers.specs.Fault.{register_code}
use Rattle.lent.specs.Grid.{grid}
use Rattle.costs.specs.Kind.{admits}
use Rattle.lent.specs.List.{or_else}
use Rattle.bay.specs.Faults.{bay_code}
use Rattle.direct.specs.Cards.{bay_over, booking_cause}
use Rattle.direct.proofs.Booking.{new_bay}
use Rattle.direct.proofs.cards.route_cards.Goals as goal

pub returns-in_err-check : goal.returns-in_err-check
returns-in_err-check g c =
    let q = err_from_is_err_and c.from_residual.result c.from_residual.ensures.1 in
    rw (q.1, q.2) (inl (record {
      cause = register_code c.in_err-check.field-0.0;
      holds = ap (λ o. or_else o (booking_cause (bay_over g.C.Cost c.args.n c.args.cards.now c.args.legs.now) c.args.legs.now)) (sym c.in_err-check.ensures.answer);
      answers = refl;
      same = refl;
    }))

pub returns-in_err-book_all : goal.returns-in_err-book_all
returns-in_err-book_all g c =
    let K = g.C.Cost in
    let held = ap (λ r. grid (admits K) r.n r.costs.now) c.new-bay.ensures.register ∙ c.new.ensures.holds in
    let made = new_bay c.new-bay.result (grid (admits K) c.args.n c.args.cards.now) held c.new-bay.ensures.legs in
    let q = err_from_is_err_and c.from_residual-in_err-book_all.result c.from_residual-in_err-book_all.ensures.1 in
    rw (q.1, q.2) (inl (record {
      cause = bay_code c.in_err-book_all.field-0.0;
      holds =
          ap (λ o. or_else o (booking_cause (bay_over K c.args.n c.args.cards.now c.args.legs.now) c.args.legs.now)) (sym c.in_ok-check.ensures.answer)
          ∙ ap (λ p. booking_cause p c.args.legs.now) (sym made) ∙ sym c.in_err-book_all.ensures.answers;
      answers = refl;
      same = refl;
    }))
