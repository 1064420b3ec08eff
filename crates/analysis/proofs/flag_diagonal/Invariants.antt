-- The flags set are those of the terminals passed, each in its own row.
use Prim.Native.Nat.{ℕ, ◌≤◌, ◌<◌}
use mathlib.Core.Path.{◌≡◌}
use lib.ListN.{length}
use Rattle.fixpoint.specs.Flags.{On}
use Rattle.fixpoint.specs.Rows.{cell, Row}
use Rattle.analysis.specs.InMemory.{Diagonal}
use Rattle.analysis.proofs.flag_diagonal.Given as goal

abbrev pub invariant-loop-c : goal.invariant-loop-c
invariant-loop-c l =
    (length l.first ≡ 8192) × ((y : ℕ) → On l.first y → Row (Diagonal l.t) y) × ((j : ℕ) → 1 ≤ j → j < l.c → On l.first (cell j j))
