-- What the builder answers to a grammar book. Document 01, 'Replies': "Order: lengths; grammar lines in order, each by 1, 2, 3, 4; then 5, 6 [..]
-- The builder gives 2 for entries, states and kernel lines, then 9, then 2 for the book's bytes, then 11."
use Rattle.std.specs.Prelude.{ℕ, List, replicate}
use Rattle.reply.specs.declared.Reply.{Reply}
use Rattle.reply.specs.declared.Reply.TheVariants.{Refused}
use Rattle.grammar.specs.Book.{Book, accepted, rejected, grammar_of}
use Rattle.build_book.specs.Text.{table_text}
use Rattle.build_book.specs.Builder.{builder_table, builder_reply, builder_slice}
use Rattle.build_reply.specs.Reply.{text_length}

-- the reply, the book's length, and the slice that was lent for the book
pub record Build : Type 0 where
  pub reply : Reply
  pub length : ℕ
  pub slice : List ℕ

-- "After a refusal every output slice is zeros"
abbrev pub build_from : ℕ → Book → Build
build_from room (accepted g) = record {
  reply = builder_reply g room;
  length = text_length (table_text (builder_table g)) (builder_reply g room);
  slice = builder_slice g room;
}
build_from room (rejected x) = record { reply = Refused x; length = 0; slice = replicate room 0 }

-- from a grammar book into a slice of `room` bytes
unfoldable pub build_of : List ℕ → ℕ → Build
build_of gs room = build_from room (grammar_of gs)
