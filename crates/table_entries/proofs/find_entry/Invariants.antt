-- No entry before entry k has the string.
use Rattle.table_entries.specs.Memory.{Rows}
use Rattle.table_entries.proofs.StringLaws.{Unfound}
use Rattle.table_lines.specs.Block.{Numbers}
use Rattle.leftcorner.specs.Table.{EntryLine}
use lib.ListN.{drop, length}
use mathlib.Core.List.{List}
use mathlib.Core.Path.{◌≡◌}
use Prim.Native.Nat.{ℕ}
use Rattle.table_entries.proofs.find_entry.Given as goal

abbrev pub invariant-loop-k : goal.invariant-loop-k
invariant-loop-k v = (l : List EntryLine) (ns : List ℕ) → length l ≡ v.entries → Rows v.m v.rules l → Numbers ns v.count v.numbers → Unfound l (drop 1 ns) v.k
