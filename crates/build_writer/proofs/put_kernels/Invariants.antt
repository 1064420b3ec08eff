-- The kernel lines passed are written.
use mathlib.Core.List.{◌∷◌}
use Rattle.memory.specs.Memory.{state_at, item_at, dot_at}
use Rattle.build_book.specs.Text.{line}
use Rattle.build_writer.specs.MemoryTable.{codes_in}
use Rattle.build_writer.proofs.SinkLaws.{Through}
use Rattle.build_writer.proofs.put_kernels.Given as goal

abbrev pub invariant-loop-l : goal.invariant-loop-l
invariant-loop-l l =
    Through (λ k. line 75 (state_at l.kernels k ∷ item_at l.kernels k ∷ dot_at l.kernels k ∷ codes_in l.lookaheads k l.codes)) 0 l.l
    l.initial.out l.initial.to l.out l.to
