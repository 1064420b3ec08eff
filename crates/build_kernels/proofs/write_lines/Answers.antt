use Prim.Native.Nat.{◌+◌}
use native.Mathlib.Omega.{arith}
use Rattle.build_kernel_sets.proofs.SetLaws.{start_low}
use Rattle.build_kernels.proofs.LineLaws.{lines_more, lines_all}
use Rattle.build_kernels.proofs.write_lines.Goals as goal

pub write_set-requires-clause-a_le_b : goal.write_set-requires-clause-a_le_b
write_set-requires-clause-a_le_b c =
    let p = c.requires in
    let n = c.loop-p.p in
    let s = start_low p.bounds (n + 1) (omega arith) in
    (p.bounds.rise n c.loop-p-test.true, omega (arith, s, p.bounds.room), omega (arith, s), omega arith)

pub write_set-requires-clause-by_index : goal.write_set-requires-clause-by_index
write_set-requires-clause-by_index c = λ n h. c.requires.by_index n (omega (arith, h, start_low c.requires.bounds (c.loop-p.p + 1) (omega arith)))

pub loop-p-preserved : goal.loop-p-preserved
loop-p-preserved c = lines_more _ _ c.requires.bounds c.loop-p-test.true c.loop-p.invariant c.write_set.ensures

pub returns : goal.returns
returns c = lines_all _ _ c.loop-p.auto.p-end c.loop-p-test.false c.loop-p.invariant
