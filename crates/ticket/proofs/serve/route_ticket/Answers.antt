-- The bay is over a list in the front of the entries.
use Rattle.std.proofs.Common.{◌≡◌, [], length, map, take, sym, refl, ap, ◌∙◌, inr, arith, rules}
use Rattle.std.proofs.lemmas.List.{length-take-le}
use Rattle.costs.specs.Kind.{admits}
use Rattle.registers.specs.Meaning.{meant}
use Rattle.lent.specs.List.{listed}
use Rattle.bay.specs.Plain.{ends}
use Rattle.ticket.specs.Kinds.{read_as}
use Rattle.ticket.specs.Said.{begins, ticket_entries}
use Rattle.ticket.proofs.Serving.{bay_fits, entries_beyond, lines_with_entries, list_begins}
use Rattle.ticket.proofs.serve.route_ticket.Goals as goal

pub returns-clause-answer : goal.returns-clause-answer
returns-clause-answer g c =
    let K = g.C.Cost in
    let n = c.args.bay.size in
    let m = c.args.memory.now in
    let none = sym c.in_ok-judge_bay.ensures in
    let fits = bay_fits c.args.bay.kind n (length m.entries.now) none in
    let part = take ticket_entries m.entries.now in
    let long = length-take-le ticket_entries m.entries.now fits.1 in
    let made = ap (λ r. meant K (listed (admits K) r.n r.entries.now)) c.new-made.ensures.register ∙ list_begins K n part (listed (admits K) c.new.result.n c.new.result.entries.now) fits.0 long c.new.ensures.holds in
    record {
      answered = inr (record {
        no_cause = none;
        lines = lines_with_entries K (read_as c.args.bay.kind g.C.TicketCost.reads) c.args.text.now c.args.bay.end m.entries.now _ _ _ _ _ (begins n)
            (λ i. record { codes = []; plain = record { register = made i; legs = ap (map ends) c.new-made.ensures.legs i } }) c.route_lines.ensures.answer;
      });
      beyond = search (arith, entries_beyond);
    }

pub returns-clause-same : goal.returns-clause-same
returns-clause-same g c = record {
  entries = refl;
  table = refl;
  costs = refl;
  chains = refl;
  codes = refl;
  ends = refl;
  entries_long = search rules;
  table_long = c.route_lines.auto.table;
  costs_long = c.route_lines.auto.costs;
  chains_long = c.route_lines.auto.chains;
  codes_long = c.route_lines.ensures.codes;
  ends_long = c.route_lines.ensures.ends;
}
