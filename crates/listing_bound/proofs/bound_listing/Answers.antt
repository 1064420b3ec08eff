-- The number of scans first, then the book.
use Prim.Native.Nat.{◌≤◌}
use mathlib.Core.Path.{sym, ◌∙◌}
use native.Mathlib.Omega.{arith}
use Rattle.grammar.proofs.ReadLaws.{read_as, read_refused}
use Rattle.listing_bound.proofs.BoundLaws.{too_many, bound_book}
use Rattle.listing_bound.proofs.bound_listing.Goals as goal

long : 8192 ≤ 8192
long = omega arith

pub returns-then-scans-gt65535 : goal.returns-then-scans-gt65535
returns-then-scans-gt65535 c = let a = c.args in sym (too_many a.grammar.now a.scans c.if-scans-gt65535.true)

pub bound_rules-requires : goal.bound_rules-requires
bound_rules-requires c =
    let a = c.args in
    let R = read_as a.grammar.now 8192 long c.read_grammar.ensures.answered c.read_grammar.auto.items c.read_grammar.ensures.stored c.in-Read.is in
    (record { grammar = R.grammar; ready = R.holds }, c.if-scans-gt65535.false)

pub returns-in-Refused : goal.returns-in-Refused
returns-in-Refused c =
    let a = c.args in
    sym (bound_book a.grammar.now a.scans c.if-scans-gt65535.false (read_refused a.grammar.now 8192 long c.read_grammar.ensures.answered c.in-Refused.is))

pub returns-in-Read : goal.returns-in-Read
returns-in-Read c =
    let a = c.args in
    let R = read_as a.grammar.now 8192 long c.read_grammar.ensures.answered c.read_grammar.auto.items c.read_grammar.ensures.stored c.in-Read.is in
    c.bound_rules.ensures R.grammar R.holds ∙ sym (bound_book a.grammar.now a.scans c.if-scans-gt65535.false R.book_is)
