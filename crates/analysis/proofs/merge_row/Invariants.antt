-- What is set in row `to` was there, or was set in row `from`; the codes passed are included.
use Prim.Native.Nat.{ℕ, ◌<◌}
use Rattle.fixpoint.specs.Flags.{On}
use Rattle.fixpoint.specs.Pass.{Pass}
use Rattle.fixpoint.specs.Rows.{cell}
use Rattle.analysis.specs.InMemory.{Copied}
use Rattle.analysis.proofs.merge_row.Given as goal

abbrev pub invariant-loop-c : goal.invariant-loop-c
invariant-loop-c l =
    Pass 8192 (Copied l.initial.flags l.from l.to) l.initial.flags l.flags 0 l.added (λ fs. (j : ℕ) → j < l.c → On fs (cell l.from j) → On fs (cell l.to j))
