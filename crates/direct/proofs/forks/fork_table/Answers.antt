-- The bay is one over the table under the bars.
use Rattle.std.proofs.Common.{ap, subst, ◌∙◌}
use Rattle.costs.specs.Kinds.{delays}
use Rattle.registers.specs.Meaning.{meant}
use Rattle.bay.specs.Buffers.{buffers}
use Rattle.bay.specs.Splits.{ForkAnswer}
use Rattle.tables.specs.Tables.{table_of}
use Rattle.direct.proofs.OverTable.{held_by, over_held}
use Rattle.direct.proofs.forks.fork_table.Goals as goal

pub returns : goal.returns
returns c =
    let held = ap held_by c.new-bay.ensures.register ∙ over_held c.new-2.result c.new.result c.args.bars c.new-2.ensures.below c.new-2.ensures.view in
    let before = buffers c.args.table.now c.args.costs.now c.args.chains.now in
    let after = buffers c.fork_gainless.new.table c.fork_gainless.new.costs c.fork_gainless.new.chains in
    record {
      table = table_of c.new.result.table.numbers.now;
      made = c.new.ensures;
      fork = subst (λ m. ForkAnswer delays (meant delays m) c.args.input c.args.first c.args.second before after c.fork_gainless.result) held c.fork_gainless.ensures.answer;
      no_loop = c.fork_gainless.ensures.never;
    }
