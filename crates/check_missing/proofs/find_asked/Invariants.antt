-- The lines passed have what is asked of them.
use Prim.Native.Nat.{ℕ, ◌+◌, ◌*◌, ◌<◌}
use Rattle.fixpoint.specs.Flags.{On}
use Rattle.kernel_lines.proofs.LinkLaws.{Passed}
use Rattle.check_missing.proofs.find_asked.Given as goal

abbrev pub invariant-loop-p : goal.invariant-loop-p
invariant-loop-p at =
    Passed (λ l. (c : ℕ) → c < at.codes → On at.asked (l * 64 + c) → On at.lookaheads (l * 64 + c)) at.kernels at.q at.lines at.p

abbrev pub decreases-loop-p : goal.decreases-loop-p
decreases-loop-p l = l.p
