-- The chain that was traced is one of least cost, since a walk leads to its end.
use Rattle.std.proofs.Common.{arith}
use Rattle.bay.specs.Cells.{least_in, tabled}
use Rattle.bay.specs.LeastTables.{cards_between}
use Rattle.bay.proofs.SplitSteps.{found_leads, found_put, one_wanted}
use Rattle.bay.proofs.splits.LeastCosts.write_least.Goals as goal

pub write_chain-requires-clause-leads : goal.write_chain-requires-clause-leads
write_chain-requires-clause-leads g c =
    let K = g.R.Cost.Cost in
    let t = c.args.self.now in
    let all = c.requires.complete in
    let (inside, to_inside) = c.requires.inside in
    found_leads g.met.R.Cost.Cost.lawful t.n (cards_between t) all.sound all.few c.args.from c.args.to to_inside
    c.trace.new.next (λ v. least_in K t.n (tabled t.cells.now t.there.now) c.args.to v) (all.least c.args.to to_inside c.args.from inside)
    (c.trace.ensures.traced c.args.from inside (one_wanted c.args.from (omega (arith, inside, all.few)))) c.requires.reached

pub returns-clause-put : goal.returns-clause-put
returns-clause-put g c =
    let K = g.R.Cost.Cost in
    let t = c.args.self.now in
    let all = c.requires.complete in
    let (inside, to_inside) = c.requires.inside in
    found_put g.met.R.Cost.Cost.lawful t.n (cards_between t) all.sound all.few c.args.from c.args.to to_inside
    c.trace.new.next (λ v. least_in K t.n (tabled t.cells.now t.there.now) c.args.to v) (all.least c.args.to to_inside c.args.from inside)
    (c.trace.ensures.traced c.args.from inside (one_wanted c.args.from (omega (arith, inside, all.few)))) c.requires.reached
    c.args.k c.write_chain.result _ _ c.write_chain.ensures.written
