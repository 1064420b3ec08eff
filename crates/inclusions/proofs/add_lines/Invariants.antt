use Rattle.inclusions.specs.Asks.{LineAsks}
use Rattle.closure.proofs.AddingLaws.{LinesTo}
use Rattle.inclusions.proofs.add_lines.Given as goal

abbrev pub invariant-loop-p : goal.invariant-loop-p
invariant-loop-p l = LinesTo (LineAsks l.kernels l.from l.codes l.i l.k l.start) l.kernels l.lines l.s l.initial.included l.included l.p

abbrev pub decreases-loop-p : goal.decreases-loop-p
decreases-loop-p l = l.p
