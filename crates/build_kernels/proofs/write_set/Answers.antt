use Rattle.build_kernels.proofs.LineLaws.{set_more}
use Rattle.build_kernels.proofs.write_set.Goals as goal

pub loop-l-preserved : goal.loop-l-preserved
loop-l-preserved c = let o = c.loop-l in set_more _ _ _ o.invariant o.auto.l c.write_line.ensures
