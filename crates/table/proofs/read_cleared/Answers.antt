-- `table::read_cleared` meets its contract. Assumes nothing.
use Rattle.grammar.proofs.ReadLaws.{read_as, read_refused}
use Rattle.table.proofs.IntoLaws.{too_long_lem, no_grammar, with_grammar, blank_now, fills_alike}
use Rattle.table.specs.Memory.{denied}
use mathlib.Core.Path.{refl, ◌∙◌}
use native.Mathlib.Omega.{arith}
use Rattle.table.proofs.read_cleared.Goals as goal

pub returns-then-book-gt65536 : goal.returns-then-book-gt65536
returns-then-book-gt65536 c = rw (too_long_lem _ _ c.if-book-gt65536.true) denied

pub read_book-requires : goal.read_book-requires
read_book-requires c = let p = c.requires in
    let g = read_as _ _ (omega (arith, p.room)) c.read_grammar.ensures.answered c.read_grammar.auto.items c.read_grammar.ensures.stored c.in-Read.is in record {
      s_len_bound = omega (arith, c.if-book-gt65536.false);
      holds_heading = record {
        grammar = g.grammar;
        blank = blank_now _ g.book_is p g.holds.laid c.read_grammar.auto.items;
        heading = g.holds.heading;
      };
    }

pub shape_of-items-in-Refused : goal.shape_of-items-in-Refused
shape_of-items-in-Refused c = c.read_grammar.auto.items

pub returns-in-Refused : goal.returns-in-Refused
returns-in-Refused c = let p = c.requires in
    rw (no_grammar _ _ c.if-book-gt65536.false (read_refused _ _ (omega (arith, p.room)) c.read_grammar.ensures.answered c.in-Refused.is)) denied

pub shape_of-items-in-Read : goal.shape_of-items-in-Read
shape_of-items-in-Read c = c.read_book.auto.items ∙ c.read_grammar.auto.items

pub shape_of-entry_states : goal.shape_of-entry_states
shape_of-entry_states c = c.read_book.auto.entry_states

pub shape_of-kernels : goal.shape_of-kernels
shape_of-kernels c = c.read_book.auto.kernels

pub shape_of-lookaheads : goal.shape_of-lookaheads
shape_of-lookaheads c = c.read_book.auto.lookaheads

pub shape_of-kinds : goal.shape_of-kinds
shape_of-kinds c = c.read_book.auto.kinds

pub shape_of-values : goal.shape_of-values
shape_of-values c = c.read_book.auto.values

pub shape_of-gotos : goal.shape_of-gotos
shape_of-gotos c = c.read_book.auto.gotos

pub shape_of-named : goal.shape_of-named
shape_of-named c = c.read_book.auto.named

pub returns-in-Read : goal.returns-in-Read
returns-in-Read c = let p = c.requires in
    let g = read_as _ _ (omega (arith, p.room)) c.read_grammar.ensures.answered c.read_grammar.auto.items c.read_grammar.ensures.stored c.in-Read.is in
    let k = blank_now _ g.book_is p g.holds.laid c.read_grammar.auto.items in
    rw (with_grammar _ _ c.if-book-gt65536.false g.book_is)
    (fills_alike (record { items_same = c.read_grammar.auto.items; states_same = refl; kernels_same = refl; lookaheads_same = refl; kinds_same = refl; values_same = refl; gotos_same = refl; named_same = refl })
    (c.read_book.ensures g.grammar k g.holds.heading))
