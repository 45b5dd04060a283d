-- The steps inside a word or a code; the others compute.
use Rattle.std.proofs.Common.{rules}
use Rattle.lines.proofs.Steps.{word_stops, kind_stops, lines_stop, bits_stop, code_stops_there}
use Rattle.lines.proofs.reader.Reader.take.Goals as goal

pub returns-in_default-3 : goal.returns-in_default-3
returns-in_default-3 c = search (rules, word_stops)

pub returns-in_default-4 : goal.returns-in_default-4
returns-in_default-4 c = search (rules, kind_stops)

pub returns-in_default-16 : goal.returns-in_default-16
returns-in_default-16 c = search (rules, code_stops_there)

pub returns-in_default-12 : goal.returns-in_default-12
returns-in_default-12 c = search (rules, lines_stop)

pub returns-in_default-14 : goal.returns-in_default-14
returns-in_default-14 c = search (rules, bits_stop)
