-- Both lengths, then the books, then the letters and the scans.
use mathlib.Core.Path.{sym, ◌∙◌}
use mathlib.Core.Bool.{true, false}
use lib.ListN.{length}
use Rattle.scan_session.proofs.ScanLaws.{by_lengths_lem}
use Rattle.scan_session.proofs.run_lettered.Goals as goal

pub returns-then-too_long : goal.returns-then-too_long
returns-then-too_long c =
    let k = c.args in
    let T = by_lengths_lem k.grammar.now k.tables.now k.letters.now k.file.now (length k.stack.now) (length k.listing.now)
    true (sym c.too_long.ensures ∙ c.if-too_long.true) c.refuse.ensures in
    record { replied = T.reply_is; listed = T.listing_is; cleared = T.stack_is }

pub returns : goal.returns
returns c =
    let k = c.args in
    let T = by_lengths_lem k.grammar.now k.tables.now k.letters.now k.file.now (length k.stack.now) (length k.listing.now)
    false (sym c.too_long.ensures ∙ c.if-too_long.false) c.walk_lettered.ensures in
    record { replied = T.reply_is; listed = T.listing_is; cleared = T.stack_is }
