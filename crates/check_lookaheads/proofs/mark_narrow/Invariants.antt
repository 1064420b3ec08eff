use Rattle.check_lookaheads.proofs.NarrowLaws.{LinesTo}
use Rattle.check_lookaheads.proofs.mark_narrow.Given as goal

abbrev pub invariant-loop-l : goal.invariant-loop-l
invariant-loop-l l = LinesTo l.kernels l.included l.lookaheads l.lines l.codes l.initial.narrow l.narrow l.l
