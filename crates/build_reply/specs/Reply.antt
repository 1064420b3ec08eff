-- The answer for a book's text. Document 01, 'Replies': "then 2 for the book's bytes, then 11."
use Rattle.std.specs.Prelude.{ℕ, ◌≤◌, ◌≡◌, List, length}
use Rattle.reply.specs.declared.Refusal.{Refusal}
use Rattle.reply.specs.declared.Reply.{Reply}
use Rattle.reply.specs.declared.Reply.TheVariants.{Accepted, Refused}
use Rattle.build_book.specs.Book.{text_reply, text_slice}
use Rattle.build_reply.specs.declared.BuildReply.{BuildReply}

-- "After a refusal [..] every count 0."
abbrev pub text_length : List ℕ → Reply → ℕ
text_length text (Accepted n) = length text
text_length text (Refused x) = 0

abbrev pub refused_by : Refusal → BuildReply
refused_by why = record { reply = Refused why; length = 0 }

-- a text was written into a slice of `room` bytes, or refused
pub record Writes (text : List ℕ) (room : ℕ) (r : BuildReply) (slice : List ℕ) : Type 0 where
  pub reply_is : r.reply ≡ text_reply text room
  pub length_is : r.length ≡ text_length text r.reply
  pub slice_is : slice ≡ text_slice text room r.reply
  pub fits : r.length ≤ room
