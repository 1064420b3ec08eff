-- A scan file is read, then the books.
use mathlib.Core.Path.{◌≡◌}
use native.Mathlib.Omega.{arith}
use lib.ListN.{length}
use borrow.Author.Rules.{rules}
use Rattle.scans.specs.File.{scanned, house, scans_of}
use Rattle.scan_session.proofs.ScanLaws.{scans_in, house_few}
use Rattle.expected_scans.proofs.ScanLaws.{answer_over}
use Rattle.expected_scans.proofs.list_scans.Goals as goal

pub list_books-requires : goal.list_books-requires
unfolding scans_of
list_books-requires c =
    let held = c.read_scans-read.new.tokens in
    let e : length held ≡ 10922 = search rules in
    record { read_in = scans_in (scanned house c.args.file.now) held _ c.read_scans-read.ensures.replied e; tokens_len_bound = omega (arith, e) }

pub returns : goal.returns
unfolding scans_of
returns c =
    let k = c.args in
    answer_over (length k.stack.now) (length k.listing.now) (length k.codes.now) k.grammar.now k.tables.now _ (scanned house k.file.now) (house_few k.file.now c.requires) _
    c.read_scans-read.ensures.replied c.read_scans-read.ensures.stored
    c.list_books.ensures
