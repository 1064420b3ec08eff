use mathlib.Core.Path.{refl, ◌∙◌}
use lib.ListN.{length}
use Rattle.builder.proofs.BookLaws.{sized_of}
use Rattle.builder.proofs.AnswerLaws.{zeros_again, build_refused, build_many, build_conflict, build_book}
use borrow.Author.Rules.{rules}
use Rattle.builder.proofs.build_tables.Goals as goal

by-clause : {A B C D : Type 0} → A × (B × (C × D)) → record { replied : A; counted : B; written : C; fits : D }
by-clause h = record { replied = h.0; counted = h.1.0; written = h.1.1.0; fits = h.1.1.1 }

pub build-built-requires : goal.build-built-requires
build-built-requires c =
    record {
      items_room = refl;
      entries_room = refl;
      kernels_room = refl;
      lookaheads_room = refl;
      kinds_zeros = refl;
      values_zeros = refl;
      gotos_zeros = refl;
    }

pub write_book-requires : goal.write_book-requires
write_book-requires c =
    let b = c.build-built.ensures in
    let C = rw c.in-Table.is at b in record { writer_room = sized_of C.stated C.numbered C.rooms C.lookaheads_room; out_value = zeros_again (length c.args.out.now) c.clear.ensures }

pub returns-in-Refused : goal.returns-in-Refused
returns-in-Refused c =
    let b = c.build-built.ensures in
    by-clause (build_refused _ _ (rw c.in-Refused.is at b) c.refused.ensures
    c.clear.ensures)

pub returns-in-TooLarge : goal.returns-in-TooLarge
returns-in-TooLarge c =
    let b = c.build-built.ensures in
    by-clause (build_many _ _ (rw c.in-TooLarge.is at b) c.refused-in-TooLarge.ensures
    c.clear.ensures)

pub returns-in-Conflict : goal.returns-in-Conflict
returns-in-Conflict c =
    let b = c.build-built.ensures in
    let C = rw c.in-Conflict.is at b in
    by-clause (build_conflict _ _ C.1 C.0 c.refused-in-Conflict.ensures
    c.clear.ensures)

pub shape_of-out-in-Table : goal.shape_of-out-in-Table
shape_of-out-in-Table c =
    c.write_book.auto.out
    ∙ c.clear.auto.s

pub returns-in-Table : goal.returns-in-Table
returns-in-Table c =
    let b = c.build-built.ensures in
    let C = rw c.in-Table.is at b in
    let w = c.write_book.ensures in
    by-clause (build_book _ _ C
    c.clear.ensures refl w)
