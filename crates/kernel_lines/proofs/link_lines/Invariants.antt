-- The lines passed are linked.
use Rattle.kernel_lines.proofs.LinkLaws.{Linking}
use Rattle.kernel_lines.proofs.link_lines.Given as goal

abbrev pub invariant-loop-l : goal.invariant-loop-l
invariant-loop-l l = Linking l.kernels l.links l.l
