-- The codes passed are lookaheads where they are asked.
use Prim.Native.Nat.{ℕ, ◌+◌, ◌*◌, ◌<◌}
use Rattle.fixpoint.specs.Flags.{On}
use Rattle.check_missing.proofs.find_code.Given as goal

abbrev pub invariant-loop-c : goal.invariant-loop-c
invariant-loop-c l = (d : ℕ) → d < l.c → On l.asked (l.l * 64 + d) → On l.lookaheads (l.l * 64 + d)
