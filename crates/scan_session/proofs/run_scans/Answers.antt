-- The file's length, then the books, then the scans.
use native.Mathlib.Omega.{arith}
use lib.ListN.{length}
use Rattle.scan_session.proofs.ScanLaws.{file_refused, file_walked}
use Rattle.scan_session.proofs.run_scans.Goals as goal

pub returns-then-file-gt65536 : goal.returns-then-file-gt65536
returns-then-file-gt65536 c =
    let k = c.args in
    let T = file_refused k.grammar.now k.tables.now k.file.now (length k.stack.now) (length k.listing.now) (omega arith)
    c.refuse.ensures in
    record { replied = T.reply_is; listed = T.listing_is; cleared = T.stack_is }

pub returns : goal.returns
returns c =
    let k = c.args in
    let T = file_walked k.grammar.now k.tables.now k.file.now (length k.stack.now) (length k.listing.now) (omega arith)
    c.walk_scans.ensures in
    record { replied = T.reply_is; listed = T.listing_is; cleared = T.stack_is }
