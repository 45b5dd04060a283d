-- The numbers up to here are written.
use Rattle.std.proofs.Common.{◌≡◌, ℕ, ◌<◌, length, get_or}
use Rattle.registers.specs.House.{house_places}
use Rattle.tables.specs.Tables.{no_card, own_numbers}
use Rattle.tables.proofs.own.own_numbers.Given as goal

abbrev pub invariant-loop-index : goal.invariant-loop-index
invariant-loop-index l = record {
  long : length l.numbers ≡ house_places;
  held : (k : ℕ) → k < l.index → get_or l.numbers k no_card ≡ get_or own_numbers k no_card;
}
