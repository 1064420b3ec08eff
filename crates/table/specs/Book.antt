-- A table book: the table, or the refusal that document 01 gives. "Table book, in blocks: `T,states,entries`; entry lines [..];
-- kernel lines [..]; action lines." 'Order: lengths; grammar lines [..]; then 5, 6; table lines likewise'.
use Rattle.std.specs.Prelude.{ℕ, List, Bool, cond, ltb, length}
use Rattle.language.specs.Grammar.{Grammar}
use Rattle.reply.specs.declared.Kind.{Kind}
use Rattle.reply.specs.declared.Kind.TheVariants as kind
use Rattle.grammar.specs.Book.{on_accepted, grammar_of}
pub use Rattle.table_head.specs.Head.{on_head}
unfoldable pub use Rattle.table_head.specs.Head.{head_of}
pub use Rattle.table_blocks.specs.Blocks.{Reading, whole, rejected, on_lines, lengths_of, table_with}
unfoldable pub use Rattle.table_blocks.specs.Blocks.{actions_of, kernels_of, entries_of}

abbrev pub rejected_at : Kind → ℕ → Reading
rejected_at k place = rejected (record { kind = k; place = place })

-- a book for grammar g
unfoldable pub table_of : Grammar → List ℕ → Reading
table_of g s = on_head (head_of s) (entries_of g s) rejected

-- ---- both books: the lengths come before any line
unfoldable pub tables_of : List ℕ → List ℕ → Reading
tables_of gs s = cond (ltb 65536 (length s)) (rejected_at kind.LimitExceeded 0) (on_accepted (grammar_of gs) (λ g. table_of g s) rejected)

-- 11, "a lent slice is shorter than the whole result", after everything else
abbrev pub read_of : Bool → Reading → Reading
read_of room (whole g t) = cond room (whole g t) (rejected_at kind.BufferTooSmall 0)
read_of room (rejected why) = rejected why
