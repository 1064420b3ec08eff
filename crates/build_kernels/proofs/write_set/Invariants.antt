-- The lines passed are written.
use Rattle.build_kernels.specs.Lines.{WritesSet}
use Rattle.build_kernels.proofs.write_set.Given as goal

abbrev pub invariant-loop-l : goal.invariant-loop-l
invariant-loop-l l = WritesSet l.sets l.initial.kernels l.kernels l.a l.l l.q
