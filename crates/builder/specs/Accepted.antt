-- A book that the builder writes is accepted: the checker replies 0 to it.
use Rattle.std.specs.Prelude.{ℕ, ◌-◌, ◌≡◌, List, ◌++◌, length, replicate}
use Rattle.language.specs.Grammar.{Grammar}
use Rattle.reply.specs.declared.Reply.TheVariants.{Accepted}
use Rattle.grammar.specs.Book.{accepted, grammar_of}
use Rattle.build_book.specs.Text.{table_text}
use Rattle.build_book.specs.Builder.{builder_table}
use Rattle.checker.specs.Checked.{verdict_of}
use Rattle.builder.specs.Build.{build_of}

-- the book is that of the grammar's table, and the checker accepts it
pub record Written (gs : List ℕ) (room : ℕ) : Type 0 where
  pub grammar : Grammar
  pub book_is : grammar_of gs ≡ accepted grammar
  pub slice_is : (build_of gs room).slice ≡ table_text (builder_table grammar) ++ replicate (room - length (table_text (builder_table grammar))) 0
  pub length_is : (build_of gs room).length ≡ length (table_text (builder_table grammar))
  pub accepted_book : verdict_of gs (table_text (builder_table grammar)) ≡ Accepted 0

abbrev pub WritesAccepted : Type 0
WritesAccepted = (gs : List ℕ) (room : ℕ) → (build_of gs room).reply ≡ Accepted 0 → Written gs room
