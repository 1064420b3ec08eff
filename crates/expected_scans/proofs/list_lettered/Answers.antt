-- The letters and the scan file are read, then the books.
use Prim.Native.Nat.{ℕ}
use mathlib.Core.Path.{◌≡◌, ap, ◌∙◌}
use native.Mathlib.Omega.{arith}
use lib.ListN.{length}
use borrow.Author.Rules.{rules}
use Rattle.scans.specs.File.{outcome_of}
use Rattle.lettered_scans.specs.Lettered.{lettered}
use Rattle.scan_session.proofs.ScanLaws.{scans_in}
use Rattle.expected_scans.proofs.ScanLaws.{letters_over}
use Rattle.expected_scans.proofs.list_lettered.Goals as goal

pub list_books-requires : goal.list_books-requires
list_books-requires c =
    let k = c.args in
    let held = c.read_lettered-read.new.tokens in
    let e : length held ≡ 10922 = search rules in
    record { read_in = scans_in (lettered c.terminals_of-terminals.result k.letters.now k.file.now) held _ c.read_lettered-read.ensures.replied e; tokens_len_bound = omega (arith, e) }

pub returns : goal.returns
returns c =
    let k = c.args in
    let t = c.terminals_of-terminals.ensures in
    letters_over (length k.stack.now) (length k.listing.now) (length k.codes.now) k.grammar.now k.tables.now _ k.letters.now k.file.now _
    (c.read_lettered-read.ensures.replied ∙ ap (λ (u : ℕ). (outcome_of (lettered u k.letters.now k.file.now) 10922).reply) t)
    (c.read_lettered-read.ensures.stored ∙ ap (λ (u : ℕ). (outcome_of (lettered u k.letters.now k.file.now) 10922).tokens) t)
    c.list_books.ensures
