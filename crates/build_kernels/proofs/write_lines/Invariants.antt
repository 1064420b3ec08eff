-- The sets passed have their lines.
use Rattle.build_kernels.specs.Lines.{LinesOf}
use Rattle.build_kernels.proofs.write_lines.Given as goal

abbrev pub invariant-loop-p : goal.invariant-loop-p
invariant-loop-p l = LinesOf l.sets l.starts l.p l.kernels
