-- The cells passed are what is asked.
use Prim.Native.Nat.{ℕ, ◌<◌}
use mathlib.Core.Path.{◌≡◌}
use lib.ListN.{get_or}
use Rattle.check_cells.specs.Contents.{demand_at}
use Rattle.check_cells.proofs.find_cell.Given as goal

abbrev pub invariant-loop-c : goal.invariant-loop-c
invariant-loop-c l = (j : ℕ) → j < l.c → get_or l.asked j 0 ≡ demand_at l.kinds l.values l.q j
