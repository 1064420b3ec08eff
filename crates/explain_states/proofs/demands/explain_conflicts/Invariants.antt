use Prim.Native.Nat.{◌≤◌}
use Rattle.explain_states.proofs.demands.explain_conflicts.Given as goal

abbrev pub invariant-loop-c : goal.invariant-loop-c
invariant-loop-c l = l.found ≤ l.c-counter
