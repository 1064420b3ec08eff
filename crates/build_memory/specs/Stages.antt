-- What memory holds after each stage of the construction.
use Rattle.std.specs.Prelude.{ℕ, ◌+◌, ◌≤◌, ◌≡◌, List, length, get_or}
use Rattle.language.specs.Grammar.{Grammar, IsNonterminal}
use Rattle.language.specs.Sentence.{AllProductive, Reachable}
use Rattle.language.specs.WellFormed.{WellFormed}
use Rattle.leftcorner.specs.Table.{Table}
use Rattle.items.specs.Layout.{Shaped}
use Rattle.memory.specs.Memory.{HoldsItems, HoldsKernels}
use Rattle.build_states.specs.Strings.{entry_strings, entry_lines}
use Rattle.build_kernels.specs.Discovered.{HoldsStates, SafeStates}
use Rattle.build_cells.specs.Cells.{items_of, Filled}

-- a grammar that was accepted, and its entries, up to 127
pub record Entered (g : Grammar) (items : List ℕ) (terminals goal rules strings : ℕ) : Type 0 where
  pub formed : WellFormed g
  pub productive : AllProductive g
  pub reached : (X : ℕ) → IsNonterminal g X → Reachable g X
  pub few_entries : length (entry_strings g) ≤ 127
  pub terminal_count : g.terminals ≡ terminals
  pub goal_is : g.goal ≡ goal
  pub rule_count : length g.rules ≡ rules
  pub entry_count : length (entry_strings g) ≡ strings
  pub shaped : Shaped items (rules + strings)
  pub holds_items : (t : Table) → t.entries ≡ entry_lines 1 (entry_strings g) → HoldsItems items g t

-- and its states, within the limits
pub record Stated (g : Grammar) (items kernels kinds values gotos : List ℕ) (terminals goal rules strings all lines : ℕ) : Type 0 where
  pub entered : Entered g items terminals goal rules strings
  pub starts : List ℕ
  pub safe : SafeStates kernels starts (rules + strings) all lines
  pub found : HoldsStates g kernels starts kinds values gotos all lines

-- entry k's state is k
pub record Numbered (entries : List ℕ) (strings : ℕ) : Type 0 where
  pub room : length entries ≡ 256
  pub state_is : (k : ℕ) → k ≤ strings → get_or entries k 0 ≡ k

-- and their lookaheads and cells, or the lowest state with a conflict
pub record Settled (g : Grammar) (kernels lookaheads kinds values gotos : List ℕ) (r : ℕ) : Type 0 where
  pub holds_kernels : HoldsKernels kernels lookaheads (items_of g)
  pub filled : Filled g kinds values gotos r

-- ---- memory that is safe to read: that of some grammar
pub record SomeEntered (items : List ℕ) (terminals goal rules strings : ℕ) : Type 0 where
  pub grammar : Grammar
  pub is : Entered grammar items terminals goal rules strings

pub record SomeStated (items kernels kinds values gotos : List ℕ) (terminals goal rules strings all lines : ℕ) : Type 0 where
  pub grammar : Grammar
  pub is : Stated grammar items kernels kinds values gotos terminals goal rules strings all lines

pub record BuildRoom (kernels kinds values gotos : List ℕ) : Type 0 where
  pub kernels_room : length kernels ≡ 4096
  pub kinds_room : length kinds ≡ 16640
  pub values_room : length values ≡ 16640
  pub gotos_room : length gotos ≡ 16640
