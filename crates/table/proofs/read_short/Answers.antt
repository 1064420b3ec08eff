-- `table::read_short` meets its contract. Assumes nothing.
use Rattle.table.proofs.IntoLaws.{fills_reply, short_read, short_refused}
use Rattle.table.specs.Book.{tables_of}
use Rattle.grammar.proofs.IntoLaws.{zeros_again}
use mathlib.Core.Path.{refl}
use borrow.Author.Rules.{rules}
use Rattle.table.proofs.read_short.Goals as goal

pub read_cleared-answer-requires : goal.read_cleared-answer-requires
read_cleared-answer-requires c = record {
  items_none = zeros_again 16640 refl;
  cleared = record {
    states_none = zeros_again 1 refl;
    kernels_none = zeros_again 1 refl;
    lookaheads_none = zeros_again 1 refl;
    kinds_none = zeros_again 1 refl;
    values_none = zeros_again 1 refl;
    gotos_none = zeros_again 1 refl;
    named_none = zeros_again 1 refl;
  };
  room = search rules;
}

pub returns-in_default : goal.returns-in_default
returns-in_default c = let a = c.args in
    short_read (tables_of a.grammar.now a.book.now) (fills_reply c.read_cleared-answer.ensures) c.in_default.is

pub returns : goal.returns
returns c = let a = c.args in
    short_refused (tables_of a.grammar.now a.book.now) (fills_reply c.read_cleared-answer.ensures) c.in-Refused.is
