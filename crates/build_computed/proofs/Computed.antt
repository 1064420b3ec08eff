-- The builder's table of a grammar, computed. Its own definitions decide by search and are too slow to run in the prover; these run.
-- `is_built`: where the test is passed, the table that was computed is the builder's, for any grammar.
use Prim.Native.Nat.{ℕ, ◌≤◌}
use mathlib.Core.Path.{◌≡◌, ap, ◌∙◌}
use mathlib.Core.Bool.{Bool, true, cond}
use borrow.Author.Tests.{le-ltb}
use lib.Dec.{ltb}
use lib.ListN.{length}
use Rattle.language.specs.Grammar.{Grammar}
use Rattle.language.specs.WellFormed.{WellFormed}
use Rattle.leftcorner.specs.Table.{Table}
use Rattle.reply.specs.declared.Kind.TheVariants.{LimitExceeded, BufferTooSmall}
use Rattle.reply.specs.declared.Reply.TheVariants.{Accepted}
use Rattle.check_verdict.specs.Verdict.{refused}
use Rattle.build_states.specs.Lookaheads.{bare}
use Rattle.build_book.specs.Text.{table_text}
use Rattle.build_book.specs.Book.{text_reply}
use Rattle.build_book.specs.Builder.{builder_table, builder_reply}
use Rattle.build_computed.proofs.Cells.{table_test, replies}
use Rattle.build_computed.proofs.Table.{computed_table, table_computed}

-- ---- the table of a grammar whose table has n states

abbrev pub computed : Grammar → ℕ → Table
computed g n = computed_table g (bare g) n

abbrev pub test : Grammar → ℕ → Bool
test g n = table_test g (bare g) n

module _ (g : Grammar) (n : ℕ) (W : WellFormed g) (passed : test g n ≡ true) where
  pub is_built : builder_table g ≡ computed g n
  is_built = table_computed g W n passed

  -- and the builder writes its book, where it fits
  pub writes : (room : ℕ) → length (table_text (computed g n)) ≤ 65536 → length (table_text (computed g n)) ≤ room → builder_reply g room ≡ Accepted 0
  writes room few l =
      let text = table_text (computed g n) in
      replies g W n passed room ∙ ap (λ (t : Table). text_reply (table_text t) room) is_built
      ∙ ap (λ (b : Bool). cond b (refused LimitExceeded 0) (cond (ltb room (length text)) (refused BufferTooSmall 0) (Accepted 0)))
      (le-ltb 65536 (length text) few)
      ∙ ap (λ (b : Bool). cond b (refused BufferTooSmall 0) (Accepted 0)) (le-ltb room (length text) l)
