-- The letters and the scan file are read, then the books.
use Prim.Native.Nat.{ℕ}
use mathlib.Core.Path.{◌≡◌, ap, ◌∙◌}
use borrow.Author.Rules.{rules}
use lib.ListN.{length}
use Rattle.scans.specs.File.{outcome_of}
use Rattle.lettered_scans.specs.Lettered.{lettered}
use Rattle.scan_session.proofs.ScanLaws.{scans_in, letters_over}
use Rattle.scan_session.proofs.walk_lettered.Goals as goal

pub walk_books-requires : goal.walk_books-requires
walk_books-requires c =
    let k = c.args in
    let held = c.read_lettered-read.new.tokens in
    let e : length held ≡ 10922 = search rules in
    scans_in (lettered c.terminals_of-terminals.result k.letters.now k.file.now) held _ c.read_lettered-read.ensures.replied e

pub returns : goal.returns
returns c =
    let k = c.args in
    let r = c.read_lettered-read.ensures in
    let t = c.terminals_of-terminals.ensures in
    letters_over (length k.stack.now) (length k.listing.now) k.grammar.now k.tables.now _ k.letters.now k.file.now _
    (r.replied ∙ ap (λ (u : ℕ). (outcome_of (lettered u k.letters.now k.file.now) 10922).reply) t)
    (r.stored ∙ ap (λ (u : ℕ). (outcome_of (lettered u k.letters.now k.file.now) 10922).tokens) t)
    c.walk_books.ensures
