use native.Mathlib.Omega.{arith}
use Rattle.build_writer.proofs.SinkLaws.{through_none, through_more, through_all}
use Rattle.build_states.specs.States.{range}
use Rattle.build_writer.proofs.TextLaws.{kernels_text}
use Rattle.build_writer.proofs.put_kernels.Goals as goal

pub loop-l-init : goal.loop-l-init
loop-l-init c = through_none _ 0 _ _ (omega arith)

pub loop-l-preserved : goal.loop-l-preserved
loop-l-preserved c = through_more c.loop-l.invariant c.put_kernel-to.ensures

pub returns : goal.returns
returns c = through_all c.loop-l.invariant c.args.lines (omega arith) (kernels_text _ _ _ _ (range 0 c.args.lines))
