-- The entries passed have their sets.
use Rattle.build_kernels.proofs.SeedLaws.{Seeding}
use Rattle.build_kernels.proofs.seed_entries.Given as goal

abbrev pub invariant-loop-j : goal.invariant-loop-j
invariant-loop-j l = Seeding l.rules l.sets l.starts l.j
