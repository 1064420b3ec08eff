-- The row up to a code is that up to the code before, and the code where it is set.
use Rattle.analysis.specs.Adds.{Adds, InRow}
use Rattle.analysis.proofs.add_codes.Given as goal

abbrev pub invariant-loop-c : goal.invariant-loop-c
invariant-loop-c l = Adds (InRow l.from l.start l.c l.at) l.initial.flags l.flags
