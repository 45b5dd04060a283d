-- Before the look at h the cells are at level h, and no look below h found a closed walk.
use Rattle.std.proofs.Common.{◌≡◌, ℕ, ◌<◌, true, is_some, Option, arith, below_more}
use Rattle.bay.specs.Cells.{cards_in, least_in, tabled}
use Rattle.bay.specs.RowsPassed.{LeadsLow}
use Rattle.bay.proofs.Counts.{count_none, count_more, count_all, leads_inside, leads_some}
use Rattle.bay.proofs.Passes.{beyond_none, beyond_then, cards_fresh}
use Rattle.bay.proofs.Levels.{first_none, first_ready, first_more, first_looked, first_there, first_all}
use Rattle.bay.proofs.PivotSteps.{roomy_on}
use Rattle.bay.proofs.elimination.first_stage.Goals as goal

pub loop-h-init : goal.loop-h-init
loop-h-init g c =
    let before = tabled c.args.cells.now c.args.there.now in
    let card = cards_in g.C.Cost c.args.n before in
    let laid = c.requires.laid in (
      beyond_none _ _,
      laid.roomy,
      λ k l. absurd (omega arith),
      first_none g.C.Cost g.met.C.Cost.lawful c.args.n card laid.sound before (λ s t ls lt ne. cards_fresh g.C.Cost c.args.n before s t ls lt ne),
      count_none g.C.Cost.algebra card,
      omega arith,
    )

pub looks-requires : goal.looks-requires
looks-requires g c =
    let (beyond, roomy, calm, to, count, few) = c.loop-h.invariant in
    record { ready = first_ready _ g.met.C.Cost.lawful _ _ c.requires.laid.sound _ _ roomy c.loop-h-test.true calm to }

pub pass-rows-requires : goal.pass-rows-requires
pass-rows-requires g c =
    let (beyond, roomy, calm, to, count, few) = c.loop-h.invariant in
    record { ready = first_ready _ g.met.C.Cost.lawful _ _ c.requires.laid.sound _ _ roomy c.loop-h-test.true calm to }

pub returns-then-looks : goal.returns-then-looks
returns-then-looks g c =
    let (beyond, roomy, calm, to, count, few) = c.loop-h.invariant in
    let look = first_looked _ g.met.C.Cost.lawful _ _ c.requires.laid.sound _ _ c.loop-h-test.true calm to in
    record { beyond = beyond; roomy = roomy; found = (c.loop-h-test.true, look.0 (c.looks.ensures.yes c.if-looks.true), calm) }

pub loop-h-preserved : goal.loop-h-preserved
loop-h-preserved g c =
    let (beyond, roomy, calm, to, count, few) = c.loop-h.invariant in
    let L = g.met.C.Cost.lawful in
    let K = g.C.Cost in
    let A = K.algebra in
    let n = c.args.n in
    let h = c.loop-h.h in
    let before = tabled c.args.cells.now c.args.there.now in
    let now = tabled c.loop-h.cells c.loop-h.there in
    let card = cards_in K n before in
    let sound = c.requires.laid.sound in
    let look = first_looked _ L _ _ sound _ _ c.loop-h-test.true calm to in
    let still = look.1 (c.looks.ensures.no c.if-looks.false) in
    let there : ℕ → Option A.Value = λ s. least_in K n now s h in
    let means : (s : ℕ) → h < s → s < n → (is_some (there s) ≡ true → LeadsLow A card h s) × (LeadsLow A card h s → is_some (there s) ≡ true) =
    λ s l m. leads_some A card h s (there s) (first_there K L n card sound now h s l m to) in
    let small = sound.small in
    let passed = c.pass-rows.ensures.passed in (
      beyond_then _ _ _ _ beyond passed.beyond,
      roomy_on K n _ h now _ passed roomy,
      below_more _ _ calm still,
      first_more _ L _ _ sound _ _ _ c.loop-h-test.true still to passed,
      count_more A card (λ s. is_some (there s)) n h c.loop-h.rows _ means (λ s w. (leads_inside L card n sound h s w).0) count c.pass-rows.ensures.rows,
      omega (arith, few, c.pass-rows.ensures.few, small),
    )

pub returns : goal.returns
returns g c =
    let (beyond, roomy, calm, to, count, few) = c.loop-h.invariant in
    let card = cards_in g.C.Cost c.args.n (tabled c.args.cells.now c.args.there.now) in
    let L = g.met.C.Cost.lawful in
    let sound = c.requires.laid.sound in
    record {
      beyond = beyond;
      roomy = roomy;
      found = (
        λ k l. calm k (omega (arith, l, c.loop-h-test.false)),
        first_all _ L _ _ sound _ _ c.loop-h-test.false to,
        count_all g.C.Cost.algebra card c.loop-h.h _ (λ h s w. omega (arith, (leads_inside L card c.args.n sound h s w).1, c.loop-h-test.false)) count,
      );
    }
