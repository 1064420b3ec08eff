use Rattle.build_lookaheads.proofs.PassLaws.{Merging}
use Rattle.build_lookaheads.proofs.add_flags.Given as goal

abbrev pub invariant-loop-y : goal.invariant-loop-y
invariant-loop-y l = Merging l.kernels l.from l.initial.flags l.flags l.initial.changed l.changed l.added l.y
