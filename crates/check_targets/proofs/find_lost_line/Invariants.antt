-- The lines passed arrive.
use Rattle.memory.specs.Memory.{item_at, dot_at}
use Rattle.kernel_lines.proofs.LinkLaws.{Passed}
use Rattle.check_targets.specs.Targets.{Arrives}
use Rattle.check_targets.proofs.find_lost_line.Given as goal

abbrev pub invariant-loop-p : goal.invariant-loop-p
invariant-loop-p at = Passed (λ l. Arrives at.items at.kernels at.kinds at.values at.gotos at.totals.lines at.q (item_at at.kernels l) (dot_at at.kernels l)) at.kernels at.q at.totals.lines at.p

abbrev pub decreases-loop-p : goal.decreases-loop-p
decreases-loop-p l = l.p
