-- The lines passed came by the move.
use Rattle.memory.specs.Memory.{item_at, dot_at}
use Rattle.kernel_lines.proofs.LinkLaws.{Passed}
use Rattle.moves.specs.Moves.{MovedAt}
use Rattle.check_targets.proofs.find_stray.Given as goal

abbrev pub invariant-loop-p : goal.invariant-loop-p
invariant-loop-p at = Passed (λ l. MovedAt at.items at.kernels at.present at.totals.rules at.totals.lines at.q at.x (item_at at.kernels l) (dot_at at.kernels l)) at.kernels at.s at.totals.lines at.p

abbrev pub decreases-loop-p : goal.decreases-loop-p
decreases-loop-p l = l.p
