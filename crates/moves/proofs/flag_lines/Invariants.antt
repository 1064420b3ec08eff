-- The lines passed are flagged, and only what moves.
use Rattle.fixpoint.specs.Flags.{On}
use Rattle.memory.specs.Memory.{item_at, dot_at}
use Rattle.kernel_lines.proofs.LinkLaws.{Passed}
use Rattle.moves.specs.Moves.{symbol_after, Flagged}
use Rattle.moves.proofs.flag_lines.Given as goal

abbrev pub invariant-loop-p : goal.invariant-loop-p
invariant-loop-p l = Flagged l.items l.kernels l.present l.rules l.lines l.q l.initial.moves l.moves × Passed (λ m. On l.moves (symbol_after l.items (item_at l.kernels m) (dot_at l.kernels m))) l.kernels l.q l.lines l.p

abbrev pub decreases-loop-p : goal.decreases-loop-p
decreases-loop-p l = l.p
