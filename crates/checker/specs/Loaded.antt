-- What `load_tables` leaves in memory where both books are accepted. Document 01, 'Walk': "The machine sees of the checker only the
-- verdict and its meaning." The verdict's meaning is Exactly.antt; of memory this is all that a walk has to know.
use Rattle.std.specs.Prelude.{ℕ, ◌+◌, ◌≤◌, ◌≡◌, List, length}
use Rattle.language.specs.Grammar.{Grammar}
use Rattle.leftcorner.specs.Table.{Table}
use Rattle.leftcorner.specs.Construction.{Meets}
use Rattle.items.specs.Layout.{Shaped}
use Rattle.memory.specs.Memory.{HoldsEntries, HoldsActions}
use Rattle.check_entries.specs.Uses.{HoldsStrings}
use Rattle.table.specs.declared.Counts.{Counts}
use Rattle.table.specs.Book.{whole}
use Rattle.table.specs.Memory.{Slices}
use Rattle.checker.specs.Checked.{checked_of}

-- memory holds a table that meets the construction: the strings of its rules and entries, the states of entries, the actions
pub record InMemory (g : Grammar) (t : Table) (items entries kinds values gotos : List ℕ) (terminals rules strings : ℕ) : Type 0 where
  pub meets : Meets g t
  pub terminals_is : g.terminals ≡ terminals
  pub holds_strings : HoldsStrings g t items rules strings
  pub holds_entries : HoldsEntries entries t
  pub holds_actions : HoldsActions kinds values gotos t

-- whatever it holds, it is safe to read
pub record Readable (items entries : List ℕ) (rules strings : ℕ) : Type 0 where
  pub shaped : Shaped items (rules + strings)
  pub few_rules : rules ≤ 127
  pub few_strings : strings ≤ 127
  pub entries_room : 256 ≤ length entries

-- the slices a hold the table of two books that are accepted, with the figures c
pub record Loaded (gs s : List ℕ) (a : Slices) (c : Counts) : Type 0 where
  pub grammar : Grammar
  pub table : Table
  pub books : checked_of gs s ≡ whole grammar table
  pub in_memory : InMemory grammar table a.items a.states a.kinds a.values a.gotos c.grammar.terminals c.grammar.rules c.entries
  pub readable : Readable a.items a.states c.grammar.rules c.entries
