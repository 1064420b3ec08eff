-- A comma and at most three digits.
use native.Mathlib.Omega.{arith}
use Rattle.build_writer.proofs.SinkLaws.{in_words, then}
use Rattle.build_writer.proofs.TextLaws.{field_digits}
use Rattle.build_writer.proofs.put_field.Goals as goal

pub returns : goal.returns
returns c =
    in_words (field_digits _ (omega arith)) (then c.put-hundreds.ensures
    (then c.put_lead-tens.ensures (then c.put_lead-ones.ensures c.put.ensures)))
