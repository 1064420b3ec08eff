-- A text that was written, or is too long for a book or for the slice.
use Prim.Native.Nat.{ℕ, ◌≤◌, ◌<◌, min}
use native.Mathlib.Omega.{arith}
use mathlib.Core.Path.{◌≡◌, refl, sym, ap, subst, ◌∙◌}
use mathlib.Core.List.{List}
use lib.ListN.{length, replicate}
use borrow.Author.Tests.{lt-ltb, le-ltb}
use Rattle.reply.specs.declared.Kind.TheVariants.{LimitExceeded, BufferTooSmall}
use Rattle.reply.specs.declared.Refusal.{Refusal}
use Rattle.reply.specs.declared.Reply.TheVariants.{Accepted, Refused}
use Rattle.check_verdict.specs.Verdict.{refused}
use Rattle.build_book.specs.Book.{text_reply}
use Rattle.build_writer.specs.Sink.{in_room, fits_room}
use Rattle.build_reply.specs.declared.BuildReply.{BuildReply}
use Rattle.build_reply.specs.Reply.{refused_by, Writes}

-- ---- a text of which the length was counted up to 65,537
module _ (text : List ℕ) (room : ℕ) {n : ℕ} (count : n ≡ min (length text) 65537) where
  pub text_long : 65536 < n → refused LimitExceeded 0 ≡ text_reply text room
  text_long l = simp (lt-ltb 65536 (length text) (omega (arith, count, l)))

  -- the slice's length, which did not change
  module _ {size : ℕ} (long : size ≡ room) (few : n ≤ 65536) where
    pub text_short : size < n → refused BufferTooSmall 0 ≡ text_reply text room
    text_short s = simp (le-ltb 65536 (length text) (omega (arith, count, few)), lt-ltb room (length text) (omega (arith, count, few, long, s)))

    pub text_written : {out : List ℕ} → n ≤ size → out ≡ in_room room text → Writes text room (record { reply = Accepted 0; length = n }) out
    text_written s e = record {
      reply_is = simp (le-ltb 65536 (length text) (omega (arith, count, few)), le-ltb room (length text) (omega (arith, count, few, long, s)));
      length_is = omega (arith, count, few);
      slice_is = e ∙ fits_room room text (omega (arith, count, few, long, s)) (omega (arith, count, few));
      fits = omega (arith, long, s);
    }

-- a refusal leaves zeros
pub text_none : (text : List ℕ) (room : ℕ) {r : BuildReply} {x : Refusal} {size : ℕ} {out : List ℕ} → r ≡ refused_by x → Refused x ≡ text_reply text room → size ≡ room
    → out ≡ replicate size 0 → Writes text room r out
text_none text room {out = out} e t long o =
    subst (λ (b : BuildReply). Writes text room b out) (sym e)
    (record { reply_is = t; length_is = refl; slice_is = o ∙ ap (λ (n : ℕ). replicate n 0) long; fits = omega arith })
