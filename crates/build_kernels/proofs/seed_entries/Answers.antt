use native.Mathlib.Omega.{arith}
use Rattle.build_kernels.proofs.SeedLaws.{seeded}
use Rattle.build_kernels.proofs.seed_entries.Goals as goal

pub returns : goal.returns
returns c = let o = c.loop-j in seeded o.auto.j-end c.loop-j-test.false o.invariant (omega arith) (omega arith)
