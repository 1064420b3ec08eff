-- The number of tokens, then the books.
use native.Mathlib.Omega.{arith}
use lib.ListN.{length}
use lib.Seq.{take-length}
use Rattle.checker.specs.Checked.{checked_of}
use Rattle.session.proofs.BookLaws.{too_many, not_many, books_read}
use Rattle.session.proofs.run_session.Goals as goal

pub returns-then-tokens-gt65535 : goal.returns-then-tokens-gt65535
returns-then-tokens-gt65535 c =
    let k = c.args in
    let T = too_many k.grammar.now k.tables.now k.tokens.now (length k.stack.now) (length k.listing.now) (omega arith) c.refuse.ensures in
    record { replied = T.reply_is; listed = T.listing_is; cleared = T.stack_is }

pub returns : goal.returns
returns c =
    let k = c.args in
    let n = length k.stack.now in
    let m = length k.listing.now in
    let w = k.tokens.now in
    let T = not_many k.grammar.now k.tables.now w n m (omega arith)
    (books_read n m (checked_of k.grammar.now k.tables.now) (length w) w (take-length w) c.walk_books.ensures) in
    record { replied = T.reply_is; listed = T.listing_is; cleared = T.stack_is }
