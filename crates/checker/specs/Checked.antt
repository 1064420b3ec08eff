-- The verdict on a grammar book and a table book. Document 01, 'Replies': "Order: lengths; grammar lines [..]; then 5, 6; table
-- lines likewise; then 7 to 10".
use Rattle.std.specs.Prelude.{ℕ, ◌≡◌, List}
use Rattle.language.specs.Grammar.{Grammar, IsNonterminal}
use Rattle.language.specs.Sentence.{Reachable, AllProductive}
use Rattle.leftcorner.specs.Table.{Table}
use Rattle.leftcorner.specs.Construction.{Meets}
use Rattle.reply.specs.declared.Reply.{Reply}
use Rattle.reply.specs.declared.Reply.TheVariants.{Accepted, Refused}
use Rattle.table.specs.Book.{Reading, whole, rejected, tables_of}
use Rattle.table.specs.Memory.{reply_of, as_reply}
use Rattle.check_memory.specs.Accepts.{table_verdict}

-- a table that was read, by the reply to it
abbrev pub by_reply : Grammar → Table → Reply → Reading
by_reply g t (Accepted n) = whole g t
by_reply g t (Refused why) = rejected why

abbrev pub checked : Reading → Reading
checked (whole g t) = by_reply g t (table_verdict g t)
checked (rejected why) = rejected why

-- the reply to what was read
abbrev pub reply_to : Reading → Reply
reply_to (whole g t) = table_verdict g t
reply_to (rejected why) = Refused why

-- both books, read and checked
unfoldable pub checked_of : List ℕ → List ℕ → Reading
checked_of gs s = checked (tables_of gs s)

-- "0 | whole | accepted"
unfoldable pub verdict_of : List ℕ → List ℕ → Reply
verdict_of gs s = as_reply (reply_of (checked_of gs s))

-- the books are those of g and t, no nonterminal is barren or cut off, and the table meets the construction
pub record Accepts (gs s : List ℕ) (g : Grammar) (t : Table) : Type 0 where
  pub reads : tables_of gs s ≡ whole g t
  pub productive : AllProductive g
  pub reachable : (X : ℕ) → IsNonterminal g X → Reachable g X
  pub meets : Meets g t
