use Rattle.inclusions.specs.Asks.{KernelAsks}
use Rattle.closure.proofs.AddingLaws.{LinesTo}
use Rattle.inclusions.proofs.add_kernel.Given as goal

abbrev pub invariant-loop-next : goal.invariant-loop-next
invariant-loop-next l =
    LinesTo (KernelAsks l.items l.kernels l.lookaheads l.kinds l.values l.gotos l.entries l.uses l.nullable l.first l.totals.rules l.totals.lines l.totals.codes l.p) l.kernels l.totals.lines l.p l.initial.asked l.asked l.next

abbrev pub decreases-loop-next : goal.decreases-loop-next
decreases-loop-next l = l.next
