-- A book that the builder writes is accepted (specs/Accepted.antt), proved.
use Prim.Native.Nat.{ℕ}
use mathlib.Core.Path.{◌≡◌, refl, sym, ap, ◌∙◌}
use mathlib.Core.List.{List}
use lib.ListN.{length}
use Rattle.leftcorner.proofs.ReadOff.{clash}
use Rattle.reply.specs.declared.Reply.TheVariants.{Accepted}
use Rattle.grammar.specs.Book.{Book, accepted, rejected, grammar_of}
use Rattle.grammar.proofs.GrammarLaws.{accepted_reduced}
use Rattle.build_book.specs.Text.{table_text}
use Rattle.build_book.specs.Book.{text_slice}
use Rattle.build_book.specs.Builder.{builder_table, builder_reply}
use Rattle.build_book.proofs.BuilderLaws.{writes_fit, writes_meets, writes_readable, slice_text, table_text_lem}
use Rattle.build_read_back.proofs.Book.{books_read}
use Rattle.checker.proofs.Exactly.{exactly}
use Rattle.build_reply.specs.Reply.{text_length}
use Rattle.builder.specs.Build.{build_from, build_of}
use Rattle.builder.specs.Accepted.{Written, WritesAccepted}

pub writes_accepted : WritesAccepted
unfolding build_of
writes_accepted gs room e = go (grammar_of gs) refl e
  where
    go : (b : Book) → grammar_of gs ≡ b → (build_from room b).reply ≡ Accepted 0 → Written gs room
    go (rejected x) f h = clash cc
    go (accepted g) f h =
        let D = accepted_reduced gs g f in
        let R = writes_readable g D.formed D.productive D.reachable room h in
        let t = books_read gs g (builder_table g) f D.formed R (writes_fit g room h) in
        record {
          grammar = g;
          book_is = f;
          slice_is = ap (λ (b : Book). (build_from room b).slice) f ∙ slice_text g room
              ∙ ap (λ (l : List ℕ). text_slice l room (builder_reply g room)) (sym (table_text_lem g)) ∙ ap (text_slice (table_text (builder_table g)) room) h;
          length_is = ap (λ (b : Book). (build_from room b).length) f ∙ ap (text_length (table_text (builder_table g))) h;
          accepted_book = (exactly gs (table_text (builder_table g))).1 (
            g,
            builder_table g,
            record { reads = t; productive = D.productive; reachable = D.reachable; meets = writes_meets g D.formed D.productive D.reachable room h },
          );
        }
