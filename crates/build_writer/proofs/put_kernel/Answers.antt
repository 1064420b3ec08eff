-- The letter, three figures, the codes, LF.
use mathlib.Core.Path.{refl}
use Rattle.build_writer.specs.MemoryTable.{set_in}
use Rattle.build_writer.proofs.SinkLaws.{in_words, then}
use Rattle.build_writer.proofs.TextLaws.{line_three}
use Rattle.build_writer.proofs.put_kernel.Goals as goal

pub returns : goal.returns
returns c =
    in_words (line_three _ (set_in _ _ _) refl refl refl)
    (then c.put-first.ensures
    (then c.put_field-second.ensures (then c.put_field-third.ensures
    (then c.put_field-fourth.ensures (then c.put_codes-end.ensures c.put.ensures)))))
