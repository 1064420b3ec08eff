-- A line for a next state, none for 0.
use borrow.Author.Rules.{rules}
use Rattle.build_writer.proofs.SinkLaws.{in_words, wrote_none}
use Rattle.build_writer.proofs.TextLaws.{goto_none, goto_some}
use Rattle.build_writer.proofs.put_goto.Goals as goal

pub returns-then-next-eq0 : goal.returns-then-next-eq0
returns-then-next-eq0 c = in_words (goto_none _ _ _ c.if-next-eq0.true) (wrote_none _ _ (search rules))

pub returns : goal.returns
returns c = in_words (goto_some _ _ _ c.if-next-eq0.false) c.put_line.ensures
