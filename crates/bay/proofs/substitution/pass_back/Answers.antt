-- One row by way of the format, or none where the goal has no cost at it.
use Rattle.std.proofs.Common.{◌≡◌, ◌+◌, None, sym, ◌∙◌, subst, inl, arith}
use Rattle.bay.specs.Cells.{least_in, tabled}
use Rattle.bay.specs.Eliminated.{Block, Improved, InRow}
use Rattle.bay.proofs.Passes.{improved_none, least_none}
use Rattle.bay.proofs.GoalSteps.{back_near, goal_ready, row_block}
use Rattle.bay.proofs.substitution.pass_back.Goals as goal

pub by_way-requires : goal.by_way-requires
by_way-requires g c =
    let t = tabled c.args.cells.now c.args.there.now in
    record {
      ready = goal_ready g.C.Cost g.met.C.Cost.lawful c.args.n c.args.j c.args.goal 0 c.args.j c.new-via.result t c.requires.roomy c.requires.inside.0 c.requires.inside.1 c.requires.inside.2
          c.new-via.ensures.at c.new-via.ensures.spans (λ w l m e. absurd (omega (arith, m, e))) c.new-via.ensures.leads;
    }

pub returns-then-holds-clause-passed : goal.returns-then-holds-clause-passed
returns-then-holds-clause-passed g c =
    let K = g.C.Cost in
    let L = g.met.C.Cost.lawful in
    let n = c.args.n in
    let j = c.args.j in
    let goal = c.args.goal in
    let t = tabled c.args.cells.now c.args.there.now in
    let later = tabled c.by_way.new.cells c.by_way.new.there in
    let at = c.new-via.ensures.at in
    let leads = c.new-via.ensures.leads in
    λ near. row_block K L n j goal 0 j c.new-via.result t later (omega (arith, c.requires.inside.1)) leads
    (subst (λ k. Improved K n k (InRow goal c.new-via.result.reached) t later) at (c.by_way.ensures.passed (back_near K L n goal j c.new-via.result t at leads near)))

pub returns-else-holds-clause-passed : goal.returns-else-holds-clause-passed
returns-else-holds-clause-passed g c =
    let K = g.C.Cost in
    let n = c.args.n in
    let j = c.args.j in
    let goal = c.args.goal in
    let t = tabled c.args.cells.now c.args.there.now in
    let none = least_none K n t goal j (sym c.holds.ensures ∙ c.if-holds.false) in
    λ near. improved_none K n g.met.C.Cost.lawful j (Block goal (goal + 1) 0 j) t (λ s w b. inl (let e : goal ≡ s = omega (arith, b.0, b.1) in subst (λ s. least_in K n t s j ≡ None) e none))
