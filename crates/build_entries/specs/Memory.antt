-- The entries of a grammar as items behind its rules. Document 01, 'Books': "Item i up to r is rule i; item r+k is the string of
-- entry line k."
use Rattle.std.specs.Prelude.{ℕ, ◌+◌, ◌*◌, ◌≤◌, ◌<◌, min, ◌≡◌, List, length, get_or}
use Rattle.language.specs.Grammar.{Grammar}
use Rattle.language.specs.Sentence.{In}
use Rattle.language.specs.WellFormed.{WellFormed}
use Rattle.items.specs.Layout.{item_table, layout, Shaped}
use Rattle.table_entries.specs.Memory.{Empty}
use Rattle.build_states.specs.Strings.{entry_strings}
use Rattle.build_states.proofs.Distinct.{Extends}

-- memory holds the rules of g, whose goal this is, and nothing else
pub record RulesOnly (g : Grammar) (items : List ℕ) (rules goal : ℕ) : Type 0 where
  pub formed : WellFormed g
  pub room : 16640 ≤ length items
  pub items_are : items ≡ layout g (length items)
  pub rule_count : length g.rules ≡ rules
  pub goal_is : g.goal ≡ goal

pub record HoldsRules (items : List ℕ) (rules goal : ℕ) : Type 0 where
  pub grammar : Grammar
  pub blank : RulesOnly grammar items rules goal

-- r is the number of g's entries, 128 for every number above 127; up to 127 they stand in memory of so many bytes
pub record Listed (g : Grammar) (size : ℕ) (items : List ℕ) (r : ℕ) : Type 0 where
  pub count_is : r ≡ min (length (entry_strings g)) 128
  pub items_are : r ≤ 127 → items ≡ item_table g.rules (entry_strings g) size

-- ---- on the way
-- a string that an item can have
pub record Fitting (γ : List ℕ) : Type 0 where
  pub short : length γ ≤ 15
  pub low : (k : ℕ) → get_or γ k 0 < 128

-- memory of so many bytes holds the rules of g and, behind them, the strings l
pub record Stored (g : Grammar) (l : List (List ℕ)) (size : ℕ) (items : List ℕ) (rules strings : ℕ) : Type 0 where
  pub formed : WellFormed g
  pub rule_count : length g.rules ≡ rules
  pub string_count : length l ≡ strings
  pub fitting : (γ : List ℕ) → In γ l → Fitting γ
  pub room : 16640 ≤ size
  pub items_are : items ≡ item_table g.rules l size

-- what the code needs of memory to read rules and strings, and to store one more behind them
pub record EntryRoom (items : List ℕ) (rules strings : ℕ) : Type 0 where
  pub shaped : Shaped items (rules + strings)
  pub empty : Empty items (rules + strings + 1)
  pub room : 16640 ≤ length items
  pub few_rules : rules ≤ 127

-- memory with as many strings as before or one more: the rules' rows are kept
pub record Grown (items₀ items : List ℕ) (rules strings r : ℕ) : Type 0 where
  pub ready : EntryRoom items rules r
  pub more : r ≤ strings + 1
  pub rows : (j : ℕ) → j < (rules + 1) * 64 → get_or items j 0 ≡ get_or items₀ j 0

-- of the strings l the first r are stored; up to 127 they are all
pub record Reached (g : Grammar) (l : List (List ℕ)) (size : ℕ) (items : List ℕ) (rules r : ℕ) : Type 0 where
  pub strings : List (List ℕ)
  pub stored : Stored g strings size items rules r
  pub extends : Extends strings l
  pub all : r ≤ 127 → strings ≡ l
