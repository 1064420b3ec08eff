-- A code whose flag is set is written, another is not.
use mathlib.Core.Path.{ap}
use borrow.Author.Rules.{rules}
use Rattle.build_book.specs.Text.{fields}
use Rattle.build_writer.proofs.SinkLaws.{in_words, wrote_none}
use Rattle.build_writer.proofs.TextLaws.{code_off, code_on}
use Rattle.build_writer.proofs.put_code.Goals as goal

pub returns-then-lookaheads-l-eq0 : goal.returns-then-lookaheads-l-eq0
returns-then-lookaheads-l-eq0 c = in_words (ap fields (code_off _ _ _ c.if-lookaheads-l-eq0.true)) (wrote_none _ _ (search rules))

pub returns : goal.returns
returns c = in_words (ap fields (code_on _ _ _ c.if-lookaheads-l-eq0.false)) c.put_field.ensures
