-- Row after row; the pivot lies in none of the rows and columns.
use Rattle.std.proofs.Common.{◌≡◌, ℕ, ◌+◌, ◌<◌, Bool, is_some, sym, subst, arith}
use Rattle.bay.specs.Cells.{least_in, tabled}
use Rattle.bay.specs.Eliminated.{Block, Improved, Tally}
use Rattle.bay.proofs.Counts.{bool_few, tally_next, tally_none}
use Rattle.bay.proofs.Passes.{improved_none}
use Rattle.bay.proofs.PivotSteps.{row_more, row_near, row_ready, row_told}
use Rattle.bay.proofs.elimination.pass.Goals as goal

pub loop-s-init : goal.loop-s-init
loop-s-init g c = (
  improved_none g.C.Cost c.args.n g.met.C.Cost.lawful c.args.at _ _ (λ s w b. absurd (omega (arith, b.0, b.1))),
  tally_none _ (c.args.at + 1),
  omega arith,
)

pub by_way-requires : goal.by_way-requires
by_way-requires g c =
    let before = tabled c.args.cells.now c.args.there.now in
    let now = tabled c.loop-s.cells c.loop-s.there in
    record {
      ready = row_ready g.C.Cost c.args.n g.met.C.Cost.lawful c.args.at before now _ c.new-via.ensures.at c.new-via.ensures.spans c.new-via.ensures.leads c.requires.ready c.loop-s.s (let few = c.loop-s.invariant.2 in omega (arith, few)) c.loop-s-test.true c.loop-s.invariant.0;
    }

pub loop-s-preserved : goal.loop-s-preserved
loop-s-preserved g c =
    let K = g.C.Cost in
    let L = g.met.C.Cost.lawful in
    let n = c.args.n in
    let at = c.args.at in
    let s = c.loop-s.s in
    let before = tabled c.args.cells.now c.args.there.now in
    let now = tabled c.loop-s.cells c.loop-s.there in
    let has : ℕ → Bool = λ s. is_some (least_in K n before s at) in
    let (passed, tally, few) = c.loop-s.invariant in
    let above : at < s = omega (arith, few) in
    let told = c.by_way.ensures in
    let near = row_near K n L at before now _ c.new-via.ensures.at c.new-via.ensures.spans c.new-via.ensures.leads c.requires.ready s above c.loop-s-test.true passed in
    let answer = row_told K n L at before now _ c.new-via.ensures.at c.new-via.ensures.spans c.new-via.ensures.leads c.requires.ready s above c.loop-s-test.true passed _ told.answer in (
      row_more K n L at before now _ c.new-via.ensures.at c.new-via.ensures.spans c.new-via.ensures.leads c.requires.ready s above c.loop-s-test.true passed _ (told.passed near),
      subst (λ k. Tally has (at + 1) (s + 1) (c.loop-s.count + k)) (sym c.from-count.ensures) (tally_next has (at + 1) s c.loop-s.count (omega arith) c.by_way.result answer tally),
      omega (arith, few, c.from-count.ensures, bool_few c.by_way.result),
    )

pub returns : goal.returns
returns g c =
    let K = g.C.Cost in
    let n = c.args.n in
    let at = c.args.at in
    let before = tabled c.args.cells.now c.args.there.now in
    let inside = c.requires.ready.inside in
    let end : c.loop-s.s ≡ n = let upto = c.loop-s.auto.s-end (omega (arith, inside)) in omega (arith, upto, c.loop-s-test.false) in
    record {
      passed = subst (λ j. Improved K n at (Block (at + 1) j (at + 1) n) before (tabled c.loop-s.cells c.loop-s.there)) end c.loop-s.invariant.0;
      rows = subst (λ j. Tally (λ s. is_some (least_in K n before s at)) (at + 1) j c.loop-s.count) end c.loop-s.invariant.1;
      few = omega (arith, c.loop-s.invariant.2, end);
    }
