-- A table book that was computed for a grammar book is what the builder writes, and the checker accepts it.
use Prim.Native.Nat.{ℕ, ◌-◌, ◌≤◌}
use native.Mathlib.Omega.{arith}
use mathlib.Core.Path.{◌≡◌, sym, ap, ap₂, subst, ◌∙◌}
use mathlib.Core.Bool.{true, cond}
use mathlib.Core.List.{List, ◌++◌}
use borrow.Author.Tests.{leb-true}
use lib.Dec.{leb, ltb}
use lib.ListN.{length, replicate}
use Rattle.language.specs.Grammar.{Grammar}
use Rattle.leftcorner.specs.Table.{Table}
use Rattle.reply.specs.declared.Kind.TheVariants.{LimitExceeded}
use Rattle.reply.specs.declared.Reply.{Reply}
use Rattle.reply.specs.declared.Reply.TheVariants.{Accepted}
use Rattle.grammar.specs.Book.{accepted, grammar_of}
use Rattle.grammar.proofs.GrammarLaws.{Reduced, accepted_reduced}
use Rattle.build_book.specs.Text.{table_text}
use Rattle.build_book.specs.Book.{text_slice}
use Rattle.build_book.specs.Builder.{builder_table, builder_reply}
use Rattle.build_book.proofs.BuilderLaws.{writes_meets, writes_readable, slice_text, table_text_lem}
use Rattle.build_computed.proofs.Computed.{computed, test, is_built, writes}
use Rattle.table.specs.Book.{Reading, whole}
use Rattle.table.specs.Memory.{reply_of, as_reply}
use Rattle.build_read_back.proofs.Book.{books_read}
use Rattle.checker.specs.Checked.{checked_of, verdict_of}
use Rattle.checker.proofs.Exactly.{accepts}
use Rattle.build_reply.specs.Reply.{text_length}
use Rattle.builder.specs.Build.{build_from, build_of}
use Rattle.worked_examples.specs.Books.{book, Books}
use Rattle.session.specs.Session.{Session, refused_at, table_session, after_books, session}
use Rattle.expected_trials.specs.Trials.{Expected}
use Rattle.expected.specs.Expected.{on_reply, list_for, expected}

-- a session over books that are those of g and t
abbrev pub session_over : Grammar → Table → List ℕ → ℕ → ℕ → Session
session_over g t w i k = cond (ltb 65535 (length w)) (refused_at i k LimitExceeded 0) (table_session i k g t w)

-- and what could have come where it ends
abbrev pub expected_over : Grammar → Table → List ℕ → ℕ → ℕ → ℕ → Expected
expected_over g t w i k room = on_reply room (session_over g t w i k).reply (list_for room i k (whole g t) w)

pub record Computes (b : Books) (g : Grammar) (n : ℕ) : Type 0 where
  -- the grammar book reads as g,
  pub reads : grammar_of (book b.grammar) ≡ accepted g
  -- and the table book is the text of the table that was computed for g, with n states
  pub passed : test g n ≡ true
  pub printed : table_text (computed g n) ≡ book b.tables
  pub short : leb (length (book b.tables)) 65536 ≡ true

module _ {b : Books} {g : Grammar} {n : ℕ} (h : Computes b g n) where
  abbrev gs : List ℕ
  gs = book b.grammar

  abbrev s : List ℕ
  s = book b.tables

  reduced : Reduced g
  reduced = accepted_reduced gs g h.reads

  table_is : builder_table g ≡ computed g n
  table_is = is_built g n reduced.formed h.passed

  text_is : table_text (builder_table g) ≡ s
  text_is = ap table_text table_is ∙ h.printed

  few : length s ≤ 65536
  few = leb-true (length s) 65536 h.short

  replies : (room : ℕ) → length s ≤ room → builder_reply g room ≡ Accepted 0
  replies room l =
      let e = sym h.printed in
      writes g n reduced.formed h.passed room (subst (λ (x : List ℕ). length x ≤ 65536) e few) (subst (λ (x : List ℕ). length x ≤ room) e l)

  pub built : (room : ℕ) → length s ≤ room → build_of gs room ≡ record { reply = Accepted 0; length = length s; slice = s ++ replicate (room - length s) 0 }
  unfolding build_of
  built room l =
      ap (build_from room) h.reads
      ∙ ap₂ (λ (r : Reply) (x : List ℕ). record { reply = r; length = text_length (table_text (builder_table g)) r; slice = x }) (replies room l)
      (slice_text g room ∙ ap (λ (x : List ℕ). text_slice x room (builder_reply g room)) (sym (table_text_lem g) ∙ text_is) ∙ ap (text_slice s room) (replies room l))
      ∙ ap (λ (x : List ℕ). record { reply = Accepted 0; length = length x; slice = s ++ replicate (room - length s) 0 }) text_is

  built_checked : checked_of gs (table_text (builder_table g)) ≡ whole g (builder_table g)
  built_checked =
      let R = reduced in
      let e = replies (length s) (omega arith) in
      accepts gs (table_text (builder_table g)) (record {
        reads = books_read gs g (builder_table g) h.reads R.formed (writes_readable g R.formed R.productive R.reachable (length s) e)
            (subst (λ (x : List ℕ). length x ≤ 65536) (sym text_is) few);
        productive = R.productive;
        reachable = R.reachable;
        meets = writes_meets g R.formed R.productive R.reachable (length s) e;
      })

  checked : checked_of gs s ≡ whole g (computed g n)
  checked =
      subst (λ (x : List ℕ). checked_of gs x ≡ whole g (computed g n)) h.printed
      (subst (λ (t : Table). checked_of gs (table_text t) ≡ whole g t) table_is built_checked)

  pub verdict_is : verdict_of gs s ≡ Accepted 0
  unfolding verdict_of
  verdict_is = ap (λ (x : Reading). as_reply (reply_of x)) checked

  pub session_is : (w : List ℕ) (i k : ℕ) → session gs s w i k ≡ session_over g (computed g n) w i k
  unfolding session
  session_is w i k = ap (λ (x : Reading). cond (ltb 65535 (length w)) (refused_at i k LimitExceeded 0) (after_books i k x w)) checked

  pub expected_is : (w : List ℕ) (i k room : ℕ) → expected gs s w i k room ≡ expected_over g (computed g n) w i k room
  unfolding expected
  expected_is w i k room =
      ap (λ (x : Session). on_reply room x.reply (list_for room i k (checked_of gs s) w)) (session_is w i k)
      ∙ ap (λ (x : Reading). on_reply room (session_over g (computed g n) w i k).reply (list_for room i k x w)) checked
