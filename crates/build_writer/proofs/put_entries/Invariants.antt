-- The entries passed are written.
use Prim.Native.Nat.{◌+◌}
use mathlib.Core.List.{◌∷◌}
use lib.ListN.{get_or}
use Rattle.build_book.specs.Text.{line}
use Rattle.build_writer.specs.MemoryTable.{symbols_in}
use Rattle.build_writer.proofs.SinkLaws.{Through}
use Rattle.build_writer.proofs.put_entries.Given as goal

abbrev pub invariant-loop-k : goal.invariant-loop-k
invariant-loop-k l =
    Through (λ e. line 69 (get_or l.entries e 0 ∷ symbols_in l.items (l.rules + e))) 1 l.k l.initial.out l.initial.to l.out l.to
