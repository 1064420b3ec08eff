-- A leading digit, where the number has it.
use mathlib.Core.Path.{sym}
use native.Mathlib.Omega.{arith}
use Rattle.text.proofs.DigitsLaws.{lead_none, lead_some}
use Rattle.build_writer.proofs.SinkLaws.{in_words, wrote_none}
use Rattle.build_writer.proofs.put_lead.Goals as goal

pub returns-then-v-p : goal.returns-then-v-p
returns-then-v-p c = in_words (sym (lead_none _ _ c.if-v-p.true)) (wrote_none _ _ (omega arith))

pub returns : goal.returns
returns c = in_words (sym (lead_some _ _ (omega arith))) c.put.ensures
