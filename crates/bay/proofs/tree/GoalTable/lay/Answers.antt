-- The way is laid from its end: each format on it gets its tick when its next one has one.
use Rattle.std.proofs.Common.{refl, ◌∙◌, arith}
use Rattle.bay.proofs.Searches.{aim_few, laying_start, laid_room, laid_tended, laid_rises, laid_first, laid_origin, laid_more}
use Rattle.bay.proofs.tree.GoalTable.lay.Goals as goal

pub loop-place-init : goal.loop-place-init
loop-place-init g c =
    let pre = c.requires in
    (laying_start g.met.R.Cost.Cost.lawful _ _ _ _ (aim_few _ _ _ _ _ c.args.self.now.ready) _ _ _ _ _ pre.searched pre.leads pre.inside pre.onward, refl)

pub format-from-requires : goal.format-from-requires
format-from-requires g c = c.loop-place.invariant.0.inside

pub tick-requires : goal.tick-requires
tick-requires g c =
    rw c.format-from.ensures (laid_room g.met.R.Cost.Cost.lawful _ _ _ _ (aim_few _ _ _ _ _ c.args.self.now.ready) _ _ c.requires.searched _ _ _ _ c.loop-place.invariant.0)

pub offset_bounds-next-from : goal.offset_bounds-next-from
offset_bounds-next-from g c =
    let room = laid_room g.met.R.Cost.Cost.lawful _ _ _ _ (aim_few _ _ _ _ _ c.args.self.now.ready) _ _ c.requires.searched _ _ _ _ c.loop-place.invariant.0 in
    omega (arith, room, c.format-from.ensures)

pub bounds-next-from : goal.bounds-next-from
bounds-next-from g c =
    rw c.format-from.ensures (laid_room g.met.R.Cost.Cost.lawful _ _ _ _ (aim_few _ _ _ _ _ c.args.self.now.ready) _ _ c.requires.searched _ _ _ _ c.loop-place.invariant.0)

pub returns-then-place-eq0-clause-leads : goal.returns-then-place-eq0-clause-leads
returns-then-place-eq0-clause-leads g c =
    rw (c.tick.ensures.ticked, c.format-from.ensures)
    (laid_tended g.met.R.Cost.Cost.lawful _ _ _ _ (aim_few _ _ _ _ _ c.args.self.now.ready) _ _ c.requires.searched _ _ _ _ c.loop-place.invariant.0)

pub returns-then-place-eq0-clause-rises : goal.returns-then-place-eq0-clause-rises
returns-then-place-eq0-clause-rises g c =
    rw (c.tick.ensures.ticked, c.format-from.ensures)
    (laid_rises g.met.R.Cost.Cost.lawful _ _ _ _ (aim_few _ _ _ _ _ c.args.self.now.ready) _ _ c.requires.searched _ _ _ _ c.loop-place.invariant.0)

pub returns-then-place-eq0-clause-first : goal.returns-then-place-eq0-clause-first
returns-then-place-eq0-clause-first g c =
    rw (c.tick.ensures.ticked, c.format-from.ensures)
    (laid_first g.met.R.Cost.Cost.lawful _ _ _ _ (aim_few _ _ _ _ _ c.args.self.now.ready) _ _ c.requires.searched _ _ _ _ c.loop-place.invariant.0 c.if-place-eq0.true)

pub origin-place-requires : goal.origin-place-requires
origin-place-requires g c = omega (arith, c.loop-place.invariant.0.inside, c.requires.searched.long_origins)

pub loop-place-preserved : goal.loop-place-preserved
loop-place-preserved g c = (
  rw (c.origin-place.ensures, c.tick.ensures.ticked, c.format-from.ensures)
      (laid_more g.met.R.Cost.Cost.lawful _ _ _ _ (aim_few _ _ _ _ _ c.args.self.now.ready) _ _ c.requires.searched _ _ _ _ c.loop-place.invariant.0 (omega (arith, c.if-place-eq0.false))),
  c.tick.ensures.same ∙ c.loop-place.invariant.1,
)

pub loop-place-smaller : goal.loop-place-smaller
loop-place-smaller g c =
    rw c.origin-place.ensures
    (laid_origin g.met.R.Cost.Cost.lawful _ _ _ _ (aim_few _ _ _ _ _ c.args.self.now.ready) _ _ c.requires.searched _ _ _ _ c.loop-place.invariant.0 (omega (arith, c.if-place-eq0.false)))
