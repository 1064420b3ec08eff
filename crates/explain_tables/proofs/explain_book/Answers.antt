-- The grammar that the table book is held against is in memory.
use Prim.Native.Nat.{◌≤◌}
use mathlib.Core.Path.{ap}
use native.Mathlib.Omega.{arith}
use Rattle.grammar_header.specs.declared.Heading.{Heading}
use Rattle.grammar.proofs.ReadLaws.{read_as}
use Rattle.grammar.proofs.ReducedLaws.{ready_shaped}
use Rattle.explain_tables.proofs.explain_book.Goals as goal

long : 8192 ≤ 8192
long = omega arith

pub explain_table_book-requires : goal.explain_table_book-requires
explain_table_book-requires c =
    let R = read_as c.args.grammar.now 8192 long c.read_grammar-answer.ensures.answered c.read_grammar-answer.auto.items c.read_grammar-answer.ensures.stored c.in-Read.is in
    record { shaped = (ready_shaped R.holds, omega (arith, ap (λ (h : Heading). h.rules) R.holds.heading, R.holds.formed.few_rules)); book_len_bound = c.if-book-gt65536.false }
