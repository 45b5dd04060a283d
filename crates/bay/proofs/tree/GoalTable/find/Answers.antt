use Rattle.std.proofs.Common.{◌<◌, length, arith}
use Rattle.bay.specs.GoalTables.{cards_of, cost_of}
use Rattle.bay.proofs.Searches.{searched_few, wider_on, scans_on}
use Rattle.bay.proofs.tree.GoalTable.find.Goals as goal

pub loop-place-smaller : goal.loop-place-smaller
loop-place-smaller g c =
    let few = searched_few g.met.R.Cost.Cost.lawful _ _ _ _ _ _ c.loop-place.invariant.0 in
    omega (arith, few, c.loop-place-test.true, c.count.ensures)

pub loop-place-preserved : goal.loop-place-preserved
loop-place-preserved g c =
    let (searched, wider, done) = c.loop-place.invariant in
    let l : c.loop-place.place < length c.loop-place.search.formats = omega (arith, c.loop-place-test.true, c.count.ensures) in (
      c.scan.ensures.searched,
      wider_on _ _ _ _ _ _ wider c.scan.ensures.wider,
      scans_on g.met.R.Cost.Cost.lawful c.args.self.now.n (cards_of c.args.self.now) (cost_of c.args.self.now) c.args.self.now.goal c.loop-place.search c.scan.new.search _ l c.scan.ensures.wider done c.in_default.ensures.answer,
    )

pub returns-clause-answer : goal.returns-clause-answer
returns-clause-answer g c = λ k l. c.loop-place.invariant.2 k (omega (arith, l, c.loop-place-test.false, c.count.ensures))
