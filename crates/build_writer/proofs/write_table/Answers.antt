-- The first line and the blocks, one after the other.
use Rattle.build_writer.proofs.SinkLaws.{in_words, then}
use Rattle.build_writer.proofs.BookLaws.{written, blocks_text}
use Rattle.build_writer.proofs.write_table.Goals as goal

by-clause : {A B : Type 0} → A × B → record { value : A; out_after : B }
by-clause h = record { value = h.0; out_after = h.1 }

pub returns : goal.returns
returns c =
    by-clause (written c.requires.out_value
    (in_words (blocks_text _ _ _ _ _ _ _ _ _ _ _ _) (then c.put_header-first.ensures
    (then c.put_entries-second.ensures (then c.put_kernels-third.ensures c.put_actions.ensures)))))
