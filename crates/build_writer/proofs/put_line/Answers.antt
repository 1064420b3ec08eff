-- The letter, three figures, LF.
use mathlib.Core.Path.{refl}
use mathlib.Core.List.{[]}
use Rattle.build_writer.proofs.SinkLaws.{in_words, then}
use Rattle.build_writer.proofs.TextLaws.{line_three}
use Rattle.build_writer.proofs.put_line.Goals as goal

pub returns : goal.returns
returns c =
    in_words (line_three _ [] refl refl refl) (then c.put-first.ensures
    (then c.put_field-second.ensures
    (then c.put_field-third.ensures (then c.put_field-end.ensures c.put.ensures))))
