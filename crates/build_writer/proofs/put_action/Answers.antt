-- A code has a cell, a nonterminal a next state.
use mathlib.Core.Path.{refl}
use Rattle.build_writer.proofs.SinkLaws.{in_words}
use Rattle.build_writer.proofs.TextLaws.{action_cell, action_goto}
use Rattle.build_writer.proofs.put_action.Goals as goal

pub returns-then-x-lt-FIRST_NONTERMINAL : goal.returns-then-x-lt-FIRST_NONTERMINAL
returns-then-x-lt-FIRST_NONTERMINAL c = in_words (action_cell _ _ _ _ _ _ refl _ c.if-x-lt-FIRST_NONTERMINAL.true refl) c.put_cell.ensures

pub returns-else-x-lt-FIRST_NONTERMINAL : goal.returns-else-x-lt-FIRST_NONTERMINAL
returns-else-x-lt-FIRST_NONTERMINAL c = in_words (action_goto _ _ _ _ _ _ refl _ c.if-x-lt-FIRST_NONTERMINAL.false refl) c.put_goto.ensures
