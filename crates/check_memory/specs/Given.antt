-- What the checker is given in memory, and what it computes before it goes over the states.
use Rattle.std.specs.Prelude.{ℕ, suc, ◌+◌, ◌*◌, ◌≤◌, ◌≡◌, List, length}
use Rattle.language.specs.Grammar.{Grammar}
use Rattle.leftcorner.specs.Table.{Table}
use Rattle.items.specs.Layout.{Shaped}
use Rattle.memory.specs.Held.{HoldsTable}
use Rattle.closure.specs.Prepared.{Prepared}
use Rattle.kernel_lines.specs.Lines.{Lines, Linked}
use Rattle.moves.specs.Moves.{Cells}
use Rattle.check_items.specs.Items.{HoldsNamed}

-- memory that is safe to read
pub record TableRoom (items entries kernels lookaheads kinds values gotos named : List ℕ) (count rules strings lines : ℕ) : Type 0 where
  pub all_items : count ≡ rules + strings
  pub shaped : Shaped items count
  pub some_lines : Lines kernels lines count
  pub cells_room : Cells kinds values gotos
  pub codes_room : lines * 64 ≤ length lookaheads
  pub entries_room : 256 ≤ length entries
  pub named_room : 256 ≤ length named
  pub few_rules : rules ≤ 127
  pub some_strings : 1 ≤ strings
  pub few_strings : strings ≤ 127

-- links of the kernel lines, the entries that groups use, nullable symbols and first sets, and what is kept of each rule for the closures
pub record Computed (items kernels links uses nul fst starts through : List ℕ) (rules lines codes : ℕ) : Type 0 where
  pub linked : Linked kernels links lines
  pub uses_room : length uses ≡ 2048
  pub nul_room : length nul ≡ 128
  pub fst_room : length fst ≡ 8192
  pub starts_room : length starts ≡ 8192
  pub through_room : length through ≡ 128
  pub prepared : Prepared items (rules + 1) codes nul fst starts through
  pub few_codes : codes ≤ 64

-- a grammar and its table in memory
pub record Given (g : Grammar) (t : Table) (items entries kernels lookaheads kinds values gotos named : List ℕ) (rules strings lines states codes : ℕ) : Type 0 where
  pub held : HoldsTable g t items entries kernels lookaheads kinds values gotos rules strings lines
  pub holds_named : HoldsNamed named g t
  pub state_count : t.states ≡ states
  pub code_count : codes ≡ suc g.terminals
