use Rattle.std.proofs.Common.{arith}
use Rattle.bay.proofs.Sheets.{reading_none, reading_inside, reading_more, reading_all}
use Rattle.bay.proofs.rows.follow.Goals as goal

pub loop-i-init : goal.loop-i-init
loop-i-init c = reading_none c.args.next.now c.args.goal c.args.from c.args.places.now c.requires.leads

pub overflow_cast-place : goal.overflow_cast-place
overflow_cast-place c = omega (arith, reading_inside _ _ _ _ _ _ _ c.loop-i.invariant)

pub returns-then-here-goal : goal.returns-then-here-goal
returns-then-here-goal c = reading_all _ _ _ _ _ _ _ c.loop-i.invariant c.if-here-goal.true

pub offset_bounds-next-here : goal.offset_bounds-next-here
offset_bounds-next-here c = omega (arith, reading_inside _ _ _ _ _ _ _ c.loop-i.invariant)

pub bounds-next-here : goal.bounds-next-here
bounds-next-here c = reading_inside _ _ _ _ _ _ _ c.loop-i.invariant

pub loop-i-preserved : goal.loop-i-preserved
loop-i-preserved c = reading_more _ _ _ _ _ _ _ c.loop-i.invariant c.if-here-goal.false
