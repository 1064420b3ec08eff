use native.Mathlib.Omega.{arith}
use Rattle.build_writer.proofs.SinkLaws.{through_none, through_more, through_all}
use Rattle.build_states.specs.States.{range}
use Rattle.build_writer.proofs.TextLaws.{entries_text}
use Rattle.build_writer.proofs.put_entries.Goals as goal

pub loop-k-init : goal.loop-k-init
loop-k-init c = through_none _ 1 _ _ (omega arith)

pub loop-k-preserved : goal.loop-k-preserved
loop-k-preserved c = through_more c.loop-k.invariant c.put_entry-to.ensures

pub returns : goal.returns
returns c = through_all c.loop-k.invariant c.args.strings (omega arith) (entries_text _ _ (range 1 c.args.strings))
