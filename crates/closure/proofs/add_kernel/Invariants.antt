-- The lines passed have added what they say.
use Rattle.closure.specs.Kernel.{LineBefore, LineFollows}
use Rattle.closure.proofs.AddingLaws.{LinesTo}
use Rattle.closure.proofs.add_kernel.Given as goal

abbrev pub invariant-loop-p : goal.invariant-loop-p
invariant-loop-p l =
    LinesTo (LineBefore l.items l.kernels) l.kernels l.totals.lines l.q l.initial.present l.present l.p
    × LinesTo (LineFollows l.items l.totals.codes l.nullable l.first l.kernels l.lookaheads) l.kernels l.totals.lines l.q l.initial.follow l.follow l.p

abbrev pub decreases-loop-p : goal.decreases-loop-p
decreases-loop-p l = l.p
