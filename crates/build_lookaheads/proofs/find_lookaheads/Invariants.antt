use Rattle.build_lookaheads.proofs.FindLaws.{Passing}
use Rattle.fixpoint.specs.Pass.{zeros}
use Rattle.build_lookaheads.proofs.find_lookaheads.Given as goal

abbrev pub invariant-passes : goal.invariant-passes
invariant-passes l =
    Passing l.items l.entries l.uses l.kernels l.kinds l.values l.gotos l.nullable l.first l.totals.rules l.totals.entries l.totals.lines l.totals.states l.totals.codes l.initial.lookaheads l.changed
    l.asked l.lookaheads

abbrev pub decreases-passes : goal.decreases-passes
decreases-passes l = zeros l.lookaheads
