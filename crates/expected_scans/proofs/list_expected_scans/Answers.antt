-- The file's length, then the books, then the scans.
use lib.ListN.{length}
use Rattle.expected_scans.proofs.ScanLaws.{too_long_lem, not_long}
use Rattle.expected_scans.proofs.list_expected_scans.Goals as goal

pub returns-then-file-gt65536 : goal.returns-then-file-gt65536
returns-then-file-gt65536 c =
    let k = c.args in
    let T = too_long_lem k.grammar.now k.tables.now k.file.now (length k.stack.now) (length k.listing.now) (length k.codes.now) c.if-file-gt65536.true c.refuse.ensures in
    record { replied = T.told.reply_is; coded = T.told.codes_is; unlisted = T.listing_is; cleared = T.stack_is }

pub returns : goal.returns
returns c =
    let k = c.args in
    let T = not_long k.grammar.now k.tables.now k.file.now (length k.stack.now) (length k.listing.now) (length k.codes.now) c.if-file-gt65536.false c.list_scans.ensures in
    record { replied = T.told.reply_is; coded = T.told.codes_is; unlisted = T.listing_is; cleared = T.stack_is }
