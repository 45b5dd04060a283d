-- The cut that halving finds lies behind the entries of lower pairs: the pair's entry is there, or none is.
use Rattle.std.proofs.Common.{take, sym, ap, ◌∙◌, arith, rules}
use Rattle.std.proofs.lemmas.List.Sorted.{IsPartitionPoint-from_clause}
use Rattle.std.proofs.lemmas.List.{get_or_default}
use Rattle.costs.specs.Kind.{admits}
use Rattle.lent.specs.List.{is_lower, is_for, InOrder}
use Rattle.lent.proofs.Ordered.{partitioned, found_there, absent_there}
use Rattle.lent.proofs.list.List.search.Goals as goal
use Rattle.lent.proofs.list.List.search.Goals.{else-place-self-via-then-place-self+else-is_for, else-place-self-via-else-place-self}

pub returns-then-is_for : goal.returns-then-is_for
returns-then-is_for g c =
    let l = c.args.self.now in
    let es = l.entries.now in
    let i = c.partition_point-place.result in
    let sorted : InOrder (admits g.C.Cost) l.n l.count es = record { few = l.few; live = l.live; rise = l.rise; clear = l.clear c.requires } in
    let cut = IsPartitionPoint-from_clause (λ e. is_lower e c.args.from c.args.to) (take l.count es) i c.partition_point-place.ensures.partitioned
    (partitioned (admits g.C.Cost) l.n l.count es sorted c.args.from c.args.to) (λ a r q k. search rules) in
    found_there (admits g.C.Cost) l.n l.count es sorted c.args.from c.args.to i c.partition_point-place.ensures.bound cut c.if-place-self.true
    (ap (λ e. is_for e c.args.from c.args.to) (get_or_default es i _ c.index-self-place.result (omega (arith, l.few))) ∙ sym c.is_for.ensures ∙ c.if-is_for.true)

pub returns-else-place-self : goal.returns-else-place-self
returns-else-place-self g c =
    let l = c.args.self.now in
    let es = l.entries.now in
    let i = c.partition_point-place.result in
    let sorted : InOrder (admits g.C.Cost) l.n l.count es = record { few = l.few; live = l.live; rise = l.rise; clear = l.clear c.requires } in
    let cut = IsPartitionPoint-from_clause (λ e. is_lower e c.args.from c.args.to) (take l.count es) i c.partition_point-place.ensures.partitioned
    (partitioned (admits g.C.Cost) l.n l.count es sorted c.args.from c.args.to) (λ a r q k. search rules) in
    absent_there (admits g.C.Cost) l.n l.count es sorted c.args.from c.args.to i c.partition_point-place.ensures.bound cut (λ h. elim c.else-place-self.branch [
      | else-place-self-via-then-place-self+else-is_for w ↦ ap (λ e. is_for e c.args.from c.args.to) (get_or_default es i _ w.index-self-place.result (omega (arith, l.few))) ∙ sym w.is_for.ensures ∙ w.if-is_for.false
      | else-place-self-via-else-place-self w ↦ absurd (omega (arith, w.if-place-self.false))
    ])
