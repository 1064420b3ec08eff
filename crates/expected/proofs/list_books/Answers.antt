-- Books that are refused, or loaded as a machine.
use mathlib.Core.Path.{◌≡◌}
use native.Mathlib.Omega.{arith}
use lib.ListN.{length}
use borrow.Author.Rules.{rules}
use Rattle.checker.specs.Checked.{checked_of}
use Rattle.expected.proofs.ListLaws.{driven, books_refused, books_listed}
use Rattle.expected.proofs.list_books.Goals as goal

pub list_read-requires : goal.list_read-requires
list_read-requires c =
    let k = c.args in
    let e : length c.load_machine.new.work ≡ 65536 = search rules in
    record {
      driven = driven _ (checked_of k.grammar.now k.tables.now) c.load_machine.ensures c.in-Ok.is;
      read_in = c.requires.read_in;
      tokens_in_bounds = omega (arith, c.requires.tokens_len_bound, e);
    }

pub returns-in-Err : goal.returns-in-Err
returns-in-Err c =
    let k = c.args in
    books_refused _ (length k.stack.now) (length k.listing.now) (length k.codes.now) k.read k.tokens.now (checked_of k.grammar.now k.tables.now)
    c.load_machine.ensures c.in-Err.is c.refuse.ensures

pub returns-in-Ok : goal.returns-in-Ok
returns-in-Ok c =
    let k = c.args in
    books_listed _ (length k.stack.now) (length k.listing.now) (length k.codes.now) k.read k.tokens.now (checked_of k.grammar.now k.tables.now)
    c.load_machine.ensures c.in-Ok.is c.list_read.ensures
