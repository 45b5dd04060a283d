use Rattle.std.proofs.Common.{◌<◌, sym, ap, ◌∙◌, subst}
use Rattle.std.specs.Option.{option_map}
use Rattle.walks.specs.Walk.{Least}
use Rattle.bay.specs.GoalTables.{cards_of, cost_of}
use Rattle.bay.specs.RouteWriters.{slots_of}
use Rattle.bay.specs.Tracing.{Traced}
use Rattle.bay.proofs.SlotSteps.{lent_room}
use Rattle.bay.proofs.RouteSteps.{leg_none, leg_leads, leg_written}
use Rattle.bay.proofs.tree.GoalTable.write_leg.Goals as goal

pub returns-in_default-clause-done : goal.returns-in_default-clause-done
returns-in_default-clause-done g c =
    let K = g.R.Cost.Cost in
    let p = c.args.self.now in
    let traced = subst (λ t. Traced K.algebra p.n (cards_of p) (cost_of p) t c.args.next.now c.args.leg.from) (sym c.requires.inside.1) c.requires.traced in
    leg_none K g.met.R.Cost.Cost.lawful p.n (cards_of p) c.requires.ready.sound c.args.next.now
    (slots_of c.args.writer.now) c.args.k c.args.leg c.requires.leg.1 (cost_of p) traced c.requires.blank (sym (ap (option_map K.value) c.in_default.is) ∙ c.rest.ensures.cost)

pub write_chain-count-requires-clause-leads : goal.write_chain-count-requires-clause-leads
write_chain-count-requires-clause-leads g c =
    let K = g.R.Cost.Cost in
    let p = c.args.self.now in
    let traced = subst (λ t. Traced K.algebra p.n (cards_of p) (cost_of p) t c.args.next.now c.args.leg.from) (sym c.requires.inside.1) c.requires.traced in
    let inside = subst (λ t. t < p.n) (sym c.requires.inside.1) c.requires.ready.inside in
    leg_leads K g.met.R.Cost.Cost.lawful p.n (cards_of p) c.requires.ready.sound c.args.next.now
    (slots_of c.args.writer.now) c.args.k c.args.leg c.requires.leg.1 (cost_of p) traced c.requires.ready.few inside c.in-Some.cost (sym (ap (option_map K.value) c.in-Some.is) ∙ c.rest.ensures.cost)

pub returns-clause-done : goal.returns-clause-done
returns-clause-done g c =
    let K = g.R.Cost.Cost in
    let p = c.args.self.now in
    let to = c.requires.inside.1 in
    let traced = subst (λ t. Traced K.algebra p.n (cards_of p) (cost_of p) t c.args.next.now c.args.leg.from) (sym to) c.requires.traced in
    let inside = subst (λ t. t < p.n) (sym to) c.requires.ready.inside in
    let least : Least K.algebra (cards_of p) c.args.leg.from c.args.leg.to (cost_of p c.args.leg.from) =
    subst (λ t. Least K.algebra (cards_of p) c.args.leg.from t (cost_of p c.args.leg.from)) (sym to) (c.requires.ready.least c.args.leg.from c.requires.inside.0) in
    leg_written K g.met.R.Cost.Cost.lawful p.n (cards_of p) c.requires.ready.sound c.args.next.now
    (slots_of c.args.writer.now) c.args.k c.args.leg c.requires.leg.1 (cost_of p) traced c.requires.ready.few inside c.in-Some.cost (sym (ap (option_map K.value) c.in-Some.is) ∙ c.rest.ensures.cost)
    least c.requires.leg.0 (lent_room c.args.writer.now) c.write_chain-count.result _ _ c.write_chain-count.ensures.written c.set_note.ensures
