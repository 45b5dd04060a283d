-- The letters are no kind's word.
use Rattle.std.proofs.Common.{take, sym, ap, ◌∙◌}
use Rattle.lines.specs.Rests.{after_byte}
use Rattle.lines.specs.declared.reader.State.TheVariants.{InKind}
use Rattle.lines.proofs.Steps.{kind_unnamed, in_state}
use Rattle.lines.proofs.reader.Reader.leave_kind.Goals as goal

pub returns-in_default : goal.returns-in_default
returns-in_default c =
    let r = c.args.self.now in
    kind_unnamed (take r.at r.letters) (λ kind e. c.in_default.ensures kind (c.collected.ensures ∙ e)) ∙ sym (ap (λ t. after_byte t 32) (in_state r InKind c.requires))
