-- The letter, the state, the symbols, LF.
use Rattle.build_writer.specs.MemoryTable.{symbols_in}
use Rattle.build_writer.proofs.SinkLaws.{in_words, then}
use Rattle.build_writer.proofs.TextLaws.{line_one}
use Rattle.build_writer.proofs.put_entry.Goals as goal

pub returns : goal.returns
returns c =
    in_words (line_one _ _ (symbols_in _ _)) (then c.put-first.ensures
    (then c.put_field-second.ensures (then c.put_symbols-end.ensures c.put.ensures)))
