-- The blocks of a table book: the table, or the refusal that document 01 gives. "entry lines [..]; kernel lines [..]; action lines."
use Rattle.std.specs.Prelude.{ℕ, ◌+◌, List, [], length}
use Rattle.language.specs.Grammar.{Grammar}
use Rattle.reply.specs.declared.Refusal.{Refusal}
use Rattle.leftcorner.specs.Table.{EntryLine, KernelLine, ActionLine, Table, symbols_of}
use Rattle.table_lines.specs.Block.{Lines, read, refused}
use Rattle.table_entries.specs.Entries.{entries_from}
use Rattle.table_kernels.specs.Kernels.{kernels_from}
use Rattle.table_actions.specs.Actions.{actions_from}

pub data Reading : Type 0 where
  whole : Grammar → Table → Reading
  rejected : Refusal → Reading

abbrev pub on_lines : {A B : Type 0} → Lines A → (List A → ℕ → B) → (Refusal → B) → B
on_lines (read l next) f y = f l next
on_lines (refused why) f y = y why

-- the lengths of the items' strings, with these entries
abbrev pub lengths_of : Grammar → List EntryLine → ℕ → ℕ
lengths_of g l i = length (symbols_of g (record { states = 0; entries = l; kernels = []; actions = [] }) i)

abbrev pub table_with : ℕ → List EntryLine → List KernelLine → List ActionLine → Table
table_with states es ks xs = record { states = states; entries = es; kernels = ks; actions = xs }

module _ (g : Grammar) (s : List ℕ) (states : ℕ) where
  unfoldable pub actions_of : List EntryLine → List KernelLine → ℕ → Reading
  actions_of es ks at =
      on_lines (actions_from s g.terminals g.nonterminals (length g.rules) states at) (λ xs end. whole g (table_with states es ks xs)) rejected

  unfoldable pub kernels_of : List EntryLine → ℕ → Reading
  kernels_of es at =
      on_lines (kernels_from s g.terminals states (length g.rules + length es) (lengths_of g es) at) (actions_of es) rejected

  unfoldable pub entries_of : ℕ → ℕ → Reading
  entries_of entries at = on_lines (entries_from entries s g.terminals g.nonterminals g.rules states at) kernels_of rejected
