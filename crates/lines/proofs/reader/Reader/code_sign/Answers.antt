-- The code has one sign more.
use Rattle.std.proofs.Common.{sym, ap, ◌∙◌, arith, rules}
use Rattle.lines.specs.Rests.{after_byte}
use Rattle.lines.specs.declared.reader.State.TheVariants.{InCode}
use Rattle.lines.proofs.Steps.{code_goes, in_state}
use Rattle.lines.proofs.reader.Reader.code_sign.Goals as goal

pub returns : goal.returns
returns c = in_state _ InCode c.requires.at
    ∙ sym (ap (λ t. after_byte t c.args.sign) (in_state c.args.self.now InCode c.requires.at)
    ∙ code_goes _ _ _ _ (search rules) (omega arith) c.requires.fits)
