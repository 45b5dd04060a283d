-- A closing sign stands after the word `end` alone.
use Rattle.std.proofs.Common.{refl}
use Rattle.lines.proofs.Steps.{word_refuses}
use Rattle.lines.proofs.reader.Reader.close_word.Goals as goal

pub returns-then-self-letters : goal.returns-then-self-letters
returns-then-self-letters c = word_refuses c.args.self.now _ 41 c.requires c.letters.ensures c.if-self-letters.true refl
