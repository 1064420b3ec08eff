-- The next states passed meet.
use Prim.Native.Nat.{ℕ, ◌<◌}
use Rattle.check_cells.specs.Contents.{GotoMeets}
use Rattle.check_cells.proofs.find_goto.Given as goal

abbrev pub invariant-loop-b : goal.invariant-loop-b
invariant-loop-b l = (j : ℕ) → j < l.b → GotoMeets l.moves l.gotos l.q j
