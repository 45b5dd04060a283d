-- The letters that are collected have one more.
use Rattle.std.proofs.Common.{◌≡◌, length, take, sym, ap, ◌∙◌, arith, rules}
use Rattle.std.proofs.lemmas.List.{take_all}
use Rattle.lines.specs.Rests.{after_byte}
use Rattle.lines.specs.declared.reader.State.TheVariants.{InKind}
use Rattle.lines.proofs.Steps.{begins, kind_taken, kind_whole, in_state}
use Rattle.lines.proofs.reader.Reader.kind_letter.Goals as goal

pub returns-then-self-ge-KIND_LETTERS : goal.returns-then-self-ge-KIND_LETTERS
returns-then-self-ge-KIND_LETTERS c =
    let r = c.args.self.now in
    let five : length r.letters ≡ 5 = search rules in
    kind_whole (take r.at r.letters) c.args.sign (ap length (take_all r.at r.letters (omega (arith, five))) ∙ five) c.requires.letter ∙ sym (ap (λ t. after_byte t c.args.sign) (in_state r InKind c.requires.at))

pub returns : goal.returns
returns c =
    let r = c.args.self.now in
    let five : length r.letters ≡ 5 = search rules in
    kind_taken r c.args.sign c.begins_kind.result c.requires.at c.if-self-ge-KIND_LETTERS.false five c.requires.letter
    (c.begins_kind.ensures ∙ ap begins c.collected.ensures)
