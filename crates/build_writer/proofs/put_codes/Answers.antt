use native.Mathlib.Omega.{arith}
use Rattle.build_writer.proofs.SinkLaws.{through_none, through_more, through_all}
use Rattle.build_writer.proofs.TextLaws.{codes_text}
use Rattle.build_writer.proofs.put_codes.Goals as goal

pub loop-d-init : goal.loop-d-init
loop-d-init c = through_none _ 0 _ _ (omega arith)

pub loop-d-preserved : goal.loop-d-preserved
loop-d-preserved c = through_more c.loop-d.invariant c.put_code-to.ensures

pub returns : goal.returns
returns c = through_all c.loop-d.invariant c.args.codes (omega arith) (codes_text _ _ _)
