use Rattle.std.proofs.Common.{inl, inr, rules, sym, ◌∙◌, arith}
use Rattle.std.proofs.lemmas.Bool.{and_from, and_parts, both_ways, lt-ltb, ltb-true}
use Rattle.bay.specs.Cells.{tabled}
use Rattle.bay.specs.GoalTables.{cards_of, cost_of}
use Rattle.bay.proofs.Passes.{least_is_some}
use Rattle.bay.proofs.Searches.{aim_few, searched_at, searched_room, turn_joins, turn_passes, wider_none}
use Rattle.bay.proofs.Tights.{tight_costs}
use Rattle.bay.proofs.tree.GoalTable.scan.Goals as goal
use Rattle.bay.proofs.tree.GoalTable.scan.Goals.{then-not-has+then-tight+else-has, else-not-has, else-not-has-via-then-not-has+else-tight, else-not-has-via-else-not-has}

pub rest-requires : goal.rest-requires
rest-requires g c = rw c.format-from.ensures (searched_at g.met.R.Cost.Cost.lawful _ _ _ _ _ _ c.requires.searched _ c.requires.inside).0

-- a tight card stands, and what it leads to has a cost to the goal
pub loop-to-init : goal.loop-to-init
loop-to-init g c =
    let p = c.args.self.now in
    let K = g.R.Cost.Cost in
    let n = p.n in
    let from = searched_at g.met.R.Cost.Cost.lawful _ _ _ _ _ _ c.requires.searched _ c.requires.inside in (
      c.requires.searched,
      wider_none _ _,
      λ w l h. ltb-true w n (sym (c.below.ensures w) ∙ (and_parts _ _ (sym (c.and-reached.ensures w) ∙ (and_parts _ _ (sym (c.and-left.ensures w) ∙ h)).1)).1),
      λ w l t. inr (
          let costs = tight_costs g.met.R.Cost.Cost.lawful n (cards_of p) (cost_of p) p.goal c.format-from.result w l t in
          c.and-left.ensures w ∙
          and_from _ _ (p.stand c.format-from.result w (rw c.format-from.ensures from.0) l ∙ costs.0)
          (c.and-reached.ensures w ∙
          and_from _ _ (sym (least_is_some K n (tabled p.cells.now p.there.now) p.goal w) ∙ costs.1) (c.below.ensures w ∙ lt-ltb w n l))
          ),
    )

pub has-requires : goal.has-requires
has-requires g c = let s = c.loop-to.invariant in omega (arith, s.2 _ c.in-Some.ensures.some.0 c.in-Some.ensures.some.1, aim_few _ _ _ _ _ c.args.self.now.ready, s.0.long_marks)

pub tight-requires-clause-inside : goal.tight-requires-clause-inside
tight-requires-clause-inside g c =
    let (l, i) = searched_at g.met.R.Cost.Cost.lawful _ _ _ _ _ _ c.requires.searched _ c.requires.inside in
    (rw c.format-from.ensures l, c.loop-to.invariant.2 _ c.in-Some.ensures.some.0 c.in-Some.ensures.some.1)

pub returns-then-has-clause-answer : goal.returns-then-has-clause-answer
returns-then-has-clause-answer g c = (
  c.loop-to.invariant.2 _ c.in-Some.ensures.some.0 c.in-Some.ensures.some.1,
  sym c.has-then-tight.ensures ∙ c.if-has.true,
  rw (sym c.format-from.ensures) (c.tight.ensures.0 c.if-tight.true),
)

pub push-requires-clause-room : goal.push-requires-clause-room
push-requires-clause-room g c =
    searched_room g.met.R.Cost.Cost.lawful _ _ _ _ (aim_few _ _ _ _ _ c.args.self.now.ready) _ _ c.loop-to.invariant.0 _
    (c.loop-to.invariant.2 _ c.in-Some.ensures.some.0 c.in-Some.ensures.some.1) (sym c.has.ensures ∙ c.if-not-has.true)

pub push-requires-clause-inside : goal.push-requires-clause-inside
push-requires-clause-inside g c = (c.in-Some.ensures.some.0, omega (arith, c.requires.inside, c.loop-to.invariant.1.rises))

pub loop-to-preserved : goal.loop-to-preserved
loop-to-preserved g c =
    let few = aim_few _ _ _ _ _ c.args.self.now.ready in
    let l = c.loop-to.invariant.2 _ c.in-Some.ensures.some.0 c.in-Some.ensures.some.1 in
    let without = c.without-left.ensures in
    elim c.if-not-has.branch [
      | then-not-has+then-tight+else-has w ↦
          turn_joins g.met.R.Cost.Cost.lawful _ _ _ _ few _ c.args.search.now _ _ c.loop-to.search c.loop-to.left c.loop-to.invariant c.if-not-has.search
          c.without-left.result without.gone without.others c.args.place l (sym c.has.ensures ∙ w.if-not-has.true) (sym w.has-then-tight.ensures ∙ w.if-has.false) c.requires.inside
          c.format-from.ensures (w.tight.ensures.0 w.if-tight.true) (w.search-is ∙ w.push.ensures)
      | else-not-has w ↦
          turn_passes g.met.R.Cost.Cost.lawful _ _ _ _ few _ c.args.search.now _ _ c.loop-to.search c.loop-to.left c.loop-to.invariant c.if-not-has.search
          c.without-left.result without.gone without.others
          (λ h. elim w.else-not-has.branch [
            | else-not-has-via-then-not-has+else-tight u ↦ absurd (both_ways _ u.if-tight.false (u.tight.ensures.1 h))
            | else-not-has-via-else-not-has u ↦ sym c.has.ensures ∙ u.if-not-has.false
          ])
          w.search-is
    ]

pub returns-clause-answer : goal.returns-clause-answer
returns-clause-answer g c = λ w l h.
    elim (c.loop-to.invariant.3 w l (rw c.format-from.ensures h)) [
      | inl m ↦ m
      | inr i ↦ absurd (both_ways _ (c.first.ensures.none (search rules) w (omega (arith, l, aim_few _ _ _ _ _ c.args.self.now.ready))) i)
    ]
