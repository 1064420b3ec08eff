-- None of the sets passed is the same.
use mathlib.Core.Path.{◌≡◌}
use Prim.Native.Nat.{ℕ, ◌+◌, ◌<◌}
use lib.ListN.{get_or}
use Rattle.build_kernel_sets.specs.Sets.{part}
use Rattle.build_kernel_sets.proofs.find_set.Given as goal

abbrev pub invariant-loop-p : goal.invariant-loop-p
invariant-loop-p l = (k : ℕ) → k < l.p → part l.sets (get_or l.starts k 0) (get_or l.starts (k + 1) 0) ≡ part l.sets l.lines (l.lines + l.len) → ⊥
