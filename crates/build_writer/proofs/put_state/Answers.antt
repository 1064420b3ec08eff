use native.Mathlib.Omega.{arith}
use Rattle.build_writer.proofs.SinkLaws.{through_none, through_more, through_all}
use Rattle.build_writer.proofs.TextLaws.{state_text}
use Rattle.build_writer.proofs.put_state.Goals as goal

pub loop-x-init : goal.loop-x-init
loop-x-init c = through_none _ 0 _ _ (omega arith)

pub loop-x-preserved : goal.loop-x-preserved
loop-x-preserved c = through_more c.loop-x.invariant c.put_action-to.ensures

pub returns : goal.returns
returns c = through_all c.loop-x.invariant c.loop-x.x (omega arith) (state_text _ _ _ _ c.loop-x.x (omega arith))
