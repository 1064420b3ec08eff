use Prim.Native.Nat.{ℕ, ◌≤◌, ◌<◌}
use Rattle.fixpoint.specs.Flags.{Off}
use Rattle.check_memory.proofs.lowest_set.Given as goal

abbrev pub invariant-loop-q : goal.invariant-loop-q
invariant-loop-q l = (k : ℕ) → 1 ≤ k → k < l.q → Off l.flags k
