use Rattle.std.proofs.Common.{◌≡◌, get_or, ◌∙◌, rules}
use Rattle.std.specs.Option.{option_map}
use Rattle.costs.specs.Kind.{admits}
use Rattle.lent.specs.List.{FoundAt, InOrder}
use Rattle.lent.proofs.Ordered.{is_for_cost}
use Rattle.lent.proofs.Listed.{held_cost, ok_at}
use Rattle.lent.proofs.list.List.cost_held.Goals as goal

pub returns-clause-value : goal.returns-clause-value
returns-clause-value g c =
    let l = c.args.self.now in
    let es = l.entries.now in
    let i = c.in_ok-place.place in
    let read : c.map.result ≡ option_map (λ e. e.cost) (get_or es i c.index-self-place.result) = search rules in
    let sorted : InOrder (admits g.C.Cost) l.n l.count es = record { few = l.few; live = l.live; rise = l.rise; clear = l.clear c.requires } in
    let found : FoundAt (admits g.C.Cost) l.n l.count es c.args.from c.args.to i = ok_at c.search.result _ _ i c.in_ok-place.ensures.value c.search.ensures in
    read ∙ held_cost (admits g.C.Cost) l.n l.count i es sorted c.args.from c.args.to found.0 (is_for_cost (admits g.C.Cost) l.n _ c.args.from c.args.to found.2) _
