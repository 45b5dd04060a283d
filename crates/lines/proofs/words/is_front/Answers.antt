-- As many bytes of the word as there are letters are the letters.
use Rattle.std.proofs.Common.{length, sym, ◌∙◌, arith}
use Rattle.std.proofs.lemmas.Bool.{false_from_ne_true, lt-leb}
use Rattle.lines.specs.Rests.{is_front}
use Rattle.lines.proofs.Steps.{front_short, front_same}
use Rattle.lines.proofs.words.is_front.Goals as goal

pub returns-then-letters-word : goal.returns-then-letters-word
returns-then-letters-word c = front_same c.args.letters.now c.args.word.now c.same_bytes.result c.if-letters-word.true c.same_bytes.ensures

pub returns-else-letters-word : goal.returns-else-letters-word
returns-else-letters-word c =
    let longer = c.if-letters-word.false in
    lt-leb (length c.args.letters.now) (length c.args.word.now) longer
    ∙ sym (false_from_ne_true (is_front c.args.letters.now c.args.word.now) (λ h. omega (arith, front_short c.args.letters.now c.args.word.now h)))
