-- The number of tokens, then the books.
use lib.ListN.{length}
use lib.Seq.{take-length}
use Rattle.checker.specs.Checked.{checked_of}
use Rattle.expected.proofs.ListLaws.{too_many, not_many, books_read}
use Rattle.expected.proofs.list_expected.Goals as goal

pub returns-then-tokens-gt65535 : goal.returns-then-tokens-gt65535
returns-then-tokens-gt65535 c =
    let k = c.args in
    let T = too_many k.grammar.now k.tables.now k.tokens.now (length k.stack.now) (length k.listing.now) (length k.codes.now) c.if-tokens-gt65535.true c.refuse.ensures in
    record { replied = T.told.reply_is; coded = T.told.codes_is; unlisted = T.listing_is; cleared = T.stack_is }

pub returns : goal.returns
returns c =
    let k = c.args in
    let n = length k.stack.now in
    let m = length k.listing.now in
    let room = length k.codes.now in
    let w = k.tokens.now in
    let T = not_many k.grammar.now k.tables.now w n m room c.if-tokens-gt65535.false
    (books_read n m room (checked_of k.grammar.now k.tables.now) (length w) w (take-length w) c.list_books.ensures) in
    record { replied = T.told.reply_is; coded = T.told.codes_is; unlisted = T.listing_is; cleared = T.stack_is }
