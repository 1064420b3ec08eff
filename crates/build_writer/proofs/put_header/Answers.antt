-- The letter, two figures, LF.
use mathlib.Core.List.{[], ◌∷◌}
use Rattle.build_writer.proofs.SinkLaws.{in_words, then}
use Rattle.build_writer.proofs.TextLaws.{line_one}
use Rattle.build_writer.proofs.put_header.Goals as goal

pub returns : goal.returns
returns c =
    in_words (line_one _ _ (_ ∷ [])) (then c.put-first.ensures
    (then c.put_field-second.ensures (then c.put_field-end.ensures c.put.ensures)))
