-- Depth first, then the book; the slices are zeros from the start, and stay so unless the load is written.
use Prim.Native.Nat.{◌≤◌}
use mathlib.Core.Path.{refl}
use native.Mathlib.Omega.{arith}
use lib.ListN.{length}
use Rattle.grammar.proofs.GrammarLaws.{accepted_reduced}
use Rattle.grammar.proofs.IntoLaws.{zeros_again}
use Rattle.grammar.proofs.ReadLaws.{read_as, read_refused}
use Rattle.generator.proofs.AnswerLaws.{generated_deep, generated_book, tells_as}
use Rattle.generator.proofs.make_load.Goals as goal

long : 8192 ≤ 8192
long = omega arith

pub returns-then-depth-gt15 : goal.returns-then-depth-gt15
returns-then-depth-gt15 c =
    tells_as (generated_deep c.args.grammar.now c.args.seed c.args.depth (length c.args.tokens.now) (length c.args.listing.now) c.if-depth-gt15.true)
    (record { reply_is = c.refuse.ensures; tokens_are = c.clear.ensures; listing_is = c.clear-2.ensures })

pub write_load-requires : goal.write_load-requires
write_load-requires c =
    let R = read_as c.args.grammar.now 8192 long c.read_grammar.ensures.answered c.read_grammar.auto.items c.read_grammar.ensures.stored c.in-Read.is in
    let tokens = zeros_again (length c.args.tokens.now) c.clear.ensures in
    let listing = zeros_again (length c.args.listing.now) c.clear-2.ensures in
    record { holds_grammar = (R.grammar, R.holds, (accepted_reduced c.args.grammar.now R.grammar R.book_is).productive); tokens_value = (tokens, listing) }

pub returns-in-Refused : goal.returns-in-Refused
returns-in-Refused c =
    tells_as
    (generated_book c.args.grammar.now c.args.seed c.args.depth (length c.args.tokens.now) (length c.args.listing.now) c.if-depth-gt15.false
    (read_refused c.args.grammar.now 8192 long c.read_grammar.ensures.answered c.in-Refused.is))
    (record { reply_is = refl; tokens_are = c.clear.ensures; listing_is = c.clear-2.ensures })

pub returns-in-Read : goal.returns-in-Read
returns-in-Read c =
    let R = read_as c.args.grammar.now 8192 long c.read_grammar.ensures.answered c.read_grammar.auto.items c.read_grammar.ensures.stored c.in-Read.is in
    let wrote = c.write_load.ensures R.grammar R.holds (accepted_reduced c.args.grammar.now R.grammar R.book_is).productive in
    tells_as (generated_book c.args.grammar.now c.args.seed c.args.depth (length c.args.tokens.now) (length c.args.listing.now) c.if-depth-gt15.false R.book_is)
    (rw (c.clear.auto.s, c.clear-2.auto.s) at wrote)
