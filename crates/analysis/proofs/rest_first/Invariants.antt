-- Symbol by symbol: what can begin with it is set, and the next is looked at where it can be empty.
use Rattle.analysis.specs.Rests.{rest_at}
use Rattle.analysis.proofs.AddLaws.{Passed}
use Rattle.analysis.proofs.rest_first.Given as goal

abbrev pub invariant-loop-j : goal.invariant-loop-j
invariant-loop-j l = Passed l.codes l.nul l.fst (rest_at l.m l.i l.k) (rest_at l.m l.i l.j) l.at l.initial.flags l.flags
