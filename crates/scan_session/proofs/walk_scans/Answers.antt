-- A scan file is read, then the books.
use mathlib.Core.Path.{◌≡◌}
use lib.ListN.{length}
use borrow.Author.Rules.{rules}
use Rattle.scans.specs.File.{scanned, house, scans_of}
use Rattle.scan_session.proofs.ScanLaws.{scans_in, house_few, session_over}
use Rattle.scan_session.proofs.walk_scans.Goals as goal

pub walk_books-requires : goal.walk_books-requires
unfolding scans_of
walk_books-requires c =
    let held = c.read_scans-read.new.tokens in
    let e : length held ≡ 10922 = search rules in
    scans_in (scanned house c.args.file.now) held _ c.read_scans-read.ensures.replied e

pub returns : goal.returns
unfolding scans_of
returns c =
    let k = c.args in
    let r = c.read_scans-read.ensures in
    session_over (length k.stack.now) (length k.listing.now) k.grammar.now k.tables.now _ (scanned house k.file.now) (house_few k.file.now c.requires) _ r.replied r.stored
    c.walk_books.ensures
