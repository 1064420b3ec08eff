-- A line for each kind of action, none for an empty cell.
use native.Mathlib.Omega.{arith}
use Rattle.build_writer.proofs.SinkLaws.{in_words, wrote_none}
use Rattle.build_writer.proofs.TextLaws.{cell_shift, cell_announce, cell_pop, cell_empty}
use Rattle.build_writer.proofs.put_cell.Goals as goal

pub returns-in-1 : goal.returns-in-1
returns-in-1 c = in_words (cell_shift _ _ _ _ c.in-1.is) c.put_line.ensures

pub returns-in-2 : goal.returns-in-2
returns-in-2 c = in_words (cell_announce _ _ _ _ c.in-2.is) c.put_line-in-2.ensures

pub returns-in-3 : goal.returns-in-3
returns-in-3 c = in_words (cell_pop _ _ _ _ c.in-3.is) c.put_line-in-3.ensures

pub returns-in_default : goal.returns-in_default
returns-in_default c = in_words (cell_empty _ _ _ _ (omega arith) (omega arith) (omega arith)) (wrote_none _ _ (omega arith))
