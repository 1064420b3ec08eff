-- What was passed is listed.
use mathlib.Core.Path.{◌≡◌}
use Prim.Native.Nat.{◌≤◌}
use lib.ListN.{take}
use Rattle.build_moves.specs.Moved.{moved_below}
use Rattle.build_moves.proofs.list_moved.Given as goal

abbrev pub invariant-loop-x : goal.invariant-loop-x
invariant-loop-x l = (l.n ≤ l.x) × (take l.n l.moved ≡ moved_below l.items l.held l.x)
