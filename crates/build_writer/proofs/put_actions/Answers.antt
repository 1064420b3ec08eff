use native.Mathlib.Omega.{arith}
use Rattle.build_writer.proofs.SinkLaws.{through_none, through_more, through_all}
use Rattle.build_states.specs.States.{range}
use Rattle.build_writer.proofs.TextLaws.{actions_text}
use Rattle.build_writer.proofs.put_actions.Goals as goal

pub loop-q-init : goal.loop-q-init
loop-q-init c = through_none _ 1 _ _ (omega arith)

pub loop-q-preserved : goal.loop-q-preserved
loop-q-preserved c = through_more c.loop-q.invariant c.put_state-to.ensures

pub returns : goal.returns
returns c = through_all c.loop-q.invariant c.args.states (omega arith) (actions_text _ _ _ (range 1 c.args.states))
