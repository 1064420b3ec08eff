use Rattle.cell_demands.specs.Demands.{Met, Asking}
use Rattle.cells.specs.Demands.{LinesAsk}
use Rattle.cells.proofs.AskLaws.{LineAsks}
use Prim.Native.Nat.{ℕ}
use Rattle.kernel_lines.proofs.LinkLaws.{Passed}
use Rattle.cells.proofs.ask_lines.Given as goal

abbrev pub invariant-loop-p : goal.invariant-loop-p
invariant-loop-p at =
    Passed (λ l. (c v : ℕ) → LineAsks at.items at.nullable at.first at.kernels at.lookaheads at.totals.rules at.totals.codes l c v → Met at.asked at.others c v) at.kernels at.q at.totals.lines at.p
    × Asking (LinesAsk at.items at.nullable at.first at.kernels at.lookaheads at.totals.rules at.totals.lines at.totals.codes at.q) at.initial.asked at.initial.others at.asked at.others

abbrev pub decreases-loop-p : goal.decreases-loop-p
decreases-loop-p l = l.p
