-- What a register over a loaded table under bars holds.
use Rattle.std.proofs.Common.{◌≡◌}
use Rattle.costs.specs.declared.delay.Delay.{Delay}
use Rattle.registers.specs.Bar.{barred}
use Rattle.registers.specs.Meaning.{Meaning}
use Rattle.registers.specs.declared.bar.Bars.{Bars}
use Rattle.registers.specs.declared.over.Over.{Over}
use Rattle.tables.specs.Tables.{table_of}
use Rattle.tables.specs.declared.loaded.LoadedTable.{LoadedTable}

abbrev pub held_by : Over LoadedTable Bars → Meaning Delay
held_by o = barred o.view.bits (table_of o.below.table.numbers.now)

pub over_held : (o : Over LoadedTable Bars) (t : LoadedTable) (bars : Bars) → o.below ≡ t → o.view ≡ bars → held_by o ≡ barred bars.bits (table_of t.table.numbers.now)
over_held o t bars below view = λ i. barred (view i).bits (table_of (below i).table.numbers.now)
