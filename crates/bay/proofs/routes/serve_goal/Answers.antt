use Rattle.std.proofs.Common.{rules, sym, subst, arith}
use Rattle.std.proofs.lemmas.List.Elements.{All-weaker}
use Rattle.registers.specs.Meaning.{most_formats}
use Rattle.bay.specs.Plain.{EndsBelow}
use Rattle.bay.specs.Tracing.{Clear}
use Rattle.bay.proofs.PivotSteps.{lent_back}
use Rattle.bay.proofs.SlotSteps.{leg_below}
use Rattle.bay.proofs.routes.serve_goal.Goals as goal

pub starts_to-wanted-requires : goal.starts_to-wanted-requires
starts_to-wanted-requires g c =
    All-weaker (EndsBelow c.args.n) (EndsBelow most_formats) (λ e below. (omega (arith, below.0, c.requires.roomy.few), omega (arith, below.1, c.requires.roomy.few))) _ c.requires.legs

pub invariant_of-table : goal.invariant_of-table
invariant_of-table g c = record { roomy = c.requires.roomy; stand = c.requires.stand; ready = ∣ c.requires.ready ∣₁ }

pub trace-requires : goal.trace-requires
trace-requires g c = record { ready = c.requires.ready; clear = subst Clear (sym c.over-ticks.ensures.ticks) c.requires.clear }

pub write_goal-requires : goal.write_goal-requires
write_goal-requires g c = record {
  ready = c.requires.ready;
  legs = c.requires.legs;
  traced = λ k l e. c.trace.ensures.traced _ (leg_below c.args.n _ c.requires.legs k l).0 (c.starts_to-wanted.ensures.each k l e);
  awaits = c.requires.awaits;
}

pub returns-clause-clear : goal.returns-clause-clear
returns-clause-clear g c = lent_back Clear c.drop-ticks.ensures (search rules)
