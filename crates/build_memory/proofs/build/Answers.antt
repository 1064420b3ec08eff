use native.Mathlib.Omega.{arith}
use Rattle.grammar.proofs.ReadLaws.{read_as}
use Rattle.build_memory.proofs.ReadLaws.{blank_of, entered_of, too_large, listed_many}
use Rattle.build_memory.proofs.build.Goals as goal

pub list_entries-strings-requires : goal.list_entries-strings-requires
list_entries-strings-requires c =
    let L = c.requires in
    let w = c.read_grammar-answer in
    let R = read_as _ _ (omega (arith, L.items_room)) w.ensures.answered w.auto.items w.ensures.stored c.in-Read.is in
    record { grammar = R.grammar; blank = blank_of R (omega (arith, w.auto.items, L.items_room)) }

pub returns-then-strings-gt127 : goal.returns-then-strings-gt127
returns-then-strings-gt127 c =
    let L = c.requires in
    let w = c.read_grammar-answer in
    let R = read_as _ _ (omega (arith, L.items_room)) w.ensures.answered w.auto.items w.ensures.stored c.in-Read.is in
    let M = c.list_entries-strings.ensures.listed R.grammar (blank_of R (omega (arith, w.auto.items, L.items_room))) in
    too_large R.book_is (listed_many M c.if-strings-gt127.true)

pub build_entered-requires-clause-some_entered : goal.build_entered-requires-clause-some_entered
build_entered-requires-clause-some_entered c =
    let L = c.requires in
    let w = c.read_grammar-answer in
    let R = read_as _ _ (omega (arith, L.items_room)) w.ensures.answered w.auto.items w.ensures.stored c.in-Read.is in
    let M = c.list_entries-strings.ensures.listed R.grammar (blank_of R (omega (arith, w.auto.items, L.items_room))) in
    record { grammar = R.grammar; is = entered_of R (omega (arith, w.auto.items, L.items_room)) M c.if-strings-gt127.false }

pub returns : goal.returns
returns c =
    let L = c.requires in
    let w = c.read_grammar-answer in
    let R = read_as _ _ (omega (arith, L.items_room)) w.ensures.answered w.auto.items w.ensures.stored c.in-Read.is in
    let M = c.list_entries-strings.ensures.listed R.grammar (blank_of R (omega (arith, w.auto.items, L.items_room))) in
    c.build_entered.ensures _ R.grammar R.book_is (entered_of R (omega (arith, w.auto.items, L.items_room)) M c.if-strings-gt127.false)
