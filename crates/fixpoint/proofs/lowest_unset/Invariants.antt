-- No flag that was passed is unset.
use Prim.Native.Nat.{ℕ, ◌≤◌, ◌<◌}
use mathlib.Core.Path.{◌≡◌}
use lib.ListN.{get_or}
use Rattle.fixpoint.proofs.lowest_unset.Given as goal

abbrev pub invariant-loop-x : goal.invariant-loop-x
invariant-loop-x l = (k : ℕ) → l.low ≤ k → k < l.x → get_or l.flags k 0 ≡ 0 → ⊥
