-- Each byte is one step of what may come. Where the reader is at the end of a line, the bytes so far are that line;
-- where it refuses a byte, or the text ends, the bytes before are part of one.
use Rattle.std.proofs.Common.{◌+◌, length, Ok, Err, sym, refl, ap, ◌∙◌, inl, inr, arith}
use Rattle.lines.specs.Grammar.{part, IsRead, IsRefused}
use Rattle.lines.specs.Rests.{line_rest}
use Rattle.lines.proofs.Runs.{run}
use Rattle.lines.proofs.Reading.{not_over, part_none, waiting, refused, run_more, part_all, line_ends, is_read}
use Rattle.lines.proofs.Places.{one_answer}
use Rattle.lines.proofs.reader.read_line.Goals as goal

pub loop-place-init : goal.loop-place-init
loop-place-init c = (
  c.new-reader.ensures ∙ sym (ap (run (line_rest c.args.stage)) (part_none c.args.text.now c.args.from)),
  not_over c.new-reader.result (line_rest c.args.stage) c.new-reader.ensures tt,
)

refused-here : (c : goal.Then-not-take) → IsRefused c.args.stage c.args.text.now c.args.from c.loop-place.place
refused-here c =
    let now = run_more c.args.stage c.args.text.now c.args.from c.loop-place.place c.loop-place.auto.place c.loop-place-test.true c.loop-place.invariant.0 c.if-not-take.ensures in
    record {
      before = waiting c.args.stage (part c.args.text.now c.args.from c.loop-place.place) c.loop-place.reader c.loop-place.invariant.0 c.loop-place.invariant.1;
      here = inr (c.loop-place.auto.place, c.loop-place-test.true, refused c.args.stage (part c.args.text.now c.args.from (c.loop-place.place + 1)) (sym now));
    }

pub returns-then-not-take : goal.returns-then-not-take
returns-then-not-take c = record {
  line = refused-here c;
  alone = λ s k. one_answer c.args.stage c.args.text.now c.args.from s (Err (record { byte = c.loop-place.place })) k (refused-here c);
}

pub placed-requires : goal.placed-requires
placed-requires c =
    let now = run_more c.args.stage c.args.text.now c.args.from c.loop-place.place c.loop-place.auto.place c.loop-place-test.true c.loop-place.invariant.0 c.if-not-take.ensures in
    let ends = line_ends c.args.stage c.args.text.now c.args.from (c.loop-place.place + 1) c.take.new.self (omega (arith, c.loop-place.auto.place)) (omega (arith, c.loop-place-test.true)) now c.in-Over.is in
    record { coded = ends.0; whole = ends.1 }

read_here : (c : goal.After-placed) → IsRead c.args.stage c.args.text.now c.args.from c.placed.result
read_here c =
    let now = run_more c.args.stage c.args.text.now c.args.from c.loop-place.place c.loop-place.auto.place c.loop-place-test.true c.loop-place.invariant.0 c.if-not-take.ensures in
    is_read c.args.stage c.args.text.now c.args.from (c.loop-place.place + 1) c.take.new.self c.placed.result (omega (arith, c.loop-place.auto.place)) (omega (arith, c.loop-place-test.true)) now
    c.in-Over.is (c.placed.ensures.line, c.placed.ensures.end) c.placed.ensures.number c.placed.ensures.code

pub returns-in-Over : goal.returns-in-Over
returns-in-Over c = record {
  line = read_here c;
  alone = λ s k. one_answer c.args.stage c.args.text.now c.args.from s (Ok c.placed.result) k (read_here c);
}

pub loop-place-preserved : goal.loop-place-preserved
loop-place-preserved c = (
  run_more c.args.stage c.args.text.now c.args.from c.loop-place.place c.loop-place.auto.place c.loop-place-test.true c.loop-place.invariant.0 c.if-not-take.ensures,
  c.in_default.not-Over,
)

text-ends : (c : goal.After-loop-place) → IsRefused c.args.stage c.args.text.now c.args.from (length c.args.text.now)
text-ends c = record {
  before = waiting c.args.stage (part c.args.text.now c.args.from (length c.args.text.now)) c.loop-place.reader
      (c.loop-place.invariant.0 ∙ ap (run (line_rest c.args.stage)) (part_all c.args.text.now c.args.from c.loop-place.place c.loop-place-test.false)) c.loop-place.invariant.1;
  here = inl refl;
}

pub returns : goal.returns
returns c = record {
  line = text-ends c;
  alone = λ s k. one_answer c.args.stage c.args.text.now c.args.from s (Err (record { byte = length c.args.text.now })) k (text-ends c);
}
