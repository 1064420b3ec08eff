-- Books that are refused, or loaded and walked.
use lib.ListN.{length}
use Rattle.checker.specs.Checked.{checked_of}
use Rattle.session.proofs.BookLaws.{books_refused, books_walked}
use Rattle.session.proofs.walk_books.Goals as goal

pub returns-in-Err : goal.returns-in-Err
returns-in-Err c =
    let k = c.args in
    books_refused (length k.stack.now) (length k.listing.now) k.read k.tokens.now _ (checked_of k.grammar.now k.tables.now)
    c.load_machine.ensures c.in-Err.is c.refuse.ensures

pub returns-in-Ok : goal.returns-in-Ok
returns-in-Ok c =
    let k = c.args in
    books_walked (length k.stack.now) (length k.listing.now) k.read k.tokens.now _ (checked_of k.grammar.now k.tables.now)
    c.load_machine.ensures c.in-Ok.is c.walk_read.ensures
