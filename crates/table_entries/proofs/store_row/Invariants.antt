-- The symbols that were passed are stored.
use Rattle.table_entries.proofs.RowLaws.{Stored}
use Rattle.table_entries.proofs.store_row.Given as goal

abbrev pub invariant-loop-k : goal.invariant-loop-k
invariant-loop-k l = Stored l.initial.items l.base l.symbols l.k l.items
