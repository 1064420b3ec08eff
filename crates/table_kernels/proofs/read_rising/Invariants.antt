-- So many lines are read, and at most 1,024 of them are in the block.
use Rattle.table_kernels.specs.Memory.{KernelMemory}
use Rattle.table_kernels.specs.Kernels.{kernel_next, kernels_from}
use Rattle.table_lines.proofs.BlockLaws.{Loop}
use Rattle.items.specs.Layout.{length_at}
use Prim.Native.Nat.{◌-◌}
use lib.ListN.{length}
use Rattle.table_kernels.proofs.read_rising.Given as goal

abbrev pub invariant-loop-k : goal.invariant-loop-k
invariant-loop-k v =
    Loop (kernels_from v.s v.t v.states v.items (length_at v.m) v.initial.at) (kernel_next v.s v.t v.states v.items (length_at v.m)) (1024 - v.k) v.at v.k
    (λ l. KernelMemory (length v.initial.kernels) (length v.initial.lookaheads) l v.kernels v.lookaheads v.last)
