-- The table that slices hold, its lines in the builder's order. Document 01, 'Construction': "Its K lines rise by state, item, dot;
-- its action lines by state, symbol."
use Rattle.std.specs.Prelude.{ℕ, ◌+◌, ◌-◌, ◌*◌, ◌≤◌, ◌<◌, ◌≡◌, cond, List, [], map, ltb, eqb, length, get_or}
use Rattle.std.proofs.Math.Option.{Option, some, none}
use Rattle.std.proofs.Math.Decide.{ℕ_discrete}
use Rattle.leftcorner.specs.Table.{EntryLine, E, KernelLine, K, Action, S, N, A, P, ActionLine, Table}
use Rattle.items.specs.Layout.{Shaped, length_at, symbol_at}
use Rattle.fixpoint.specs.Flags.{On}
use Rattle.memory.specs.Memory.{state_at, item_at, dot_at}
use Rattle.build_states.specs.States.{range, keep}
use Rattle.build_book.specs.Built.{actions_on, actions_of}
use Rattle.build_book.specs.Text.{table_text}

-- the string of item i
unfoldable pub symbols_in : List ℕ → ℕ → List ℕ
symbols_in items i = map (symbol_at items i) (range 0 (length_at items i))

-- `E,state,symbols`: "item r+k is the string of entry line k"
abbrev pub entry_in : List ℕ → List ℕ → ℕ → ℕ → EntryLine
entry_in items entries rules k = E (get_or entries k 0) (symbols_in items (rules + k))

-- whether a flag is set
abbrev pub decided : (fs : List ℕ) (x : ℕ) → Dec (get_or fs x 0 ≡ 0) → Dec (On fs x)
decided fs x (yes e) = no (λ o. o.nonzero e)
decided fs x (no f) = yes (record { nonzero = f })

abbrev pub on? : (fs : List ℕ) (x : ℕ) → Dec (On fs x)
on? fs x = decided fs x (ℕ_discrete (get_or fs x 0) 0)

module _ (lookaheads : List ℕ) (l : ℕ) where
  -- those of some codes whose flag kernel line l has
  unfoldable pub set_in : List ℕ → List ℕ
  set_in ds = keep (λ d. On lookaheads (l * 64 + d)) (λ d. on? lookaheads (l * 64 + d)) ds

  -- "Codes are the context, at least one, rising."
  abbrev pub codes_in : ℕ → List ℕ
  codes_in codes = set_in (range 0 codes)

-- `K,state,item,dot,codes`
abbrev pub kernel_in : List ℕ → List ℕ → ℕ → ℕ → KernelLine
kernel_in kernels lookaheads codes l = K (state_at kernels l) (item_at kernels l) (dot_at kernels l) (codes_in lookaheads l codes)

-- the action of a cell: 1 shift, 2 announce, 3 pop, which holds one less than the count
unfoldable pub cell_in : ℕ → ℕ → Option Action
cell_in kind value = cond (eqb kind 1) (some (S value)) (cond (eqb kind 2) (some (A value)) (cond (eqb kind 3) (some (P (value + 1))) none))

-- the move on a nonterminal, 0 for none
unfoldable pub goto_in : ℕ → Option Action
goto_in next = cond (eqb next 0) none (some (N next))

module _ (kinds values gotos : List ℕ) where
  -- codes are below 64, nonterminals from there on
  unfoldable pub action_in : ℕ → ℕ → Option Action
  action_in q X = cond (ltb X 64) (cell_in (get_or kinds (q * 64 + X) 0) (get_or values (q * 64 + X) 0)) (goto_in (get_or gotos (q * 64 + (X - 64)) 0))

  -- the lines of state q
  unfoldable pub lines_in : ℕ → List ActionLine
  lines_in q = actions_on action_in q (range 0 128) []

module _ (items entries kernels lookaheads kinds values gotos : List ℕ) (rules strings lines states codes : ℕ) where
  unfoldable pub memory_table : Table
  memory_table = record {
    states = states;
    entries = map (entry_in items entries rules) (range 1 strings);
    kernels = map (kernel_in kernels lookaheads codes) (range 0 lines);
    actions = actions_of (action_in kinds values gotos) (range 1 states);
  }

  -- its book
  abbrev pub memory_text : List ℕ
  memory_text = table_text memory_table

-- what the code needs of memory to read that table, whatever it means
pub record WriterRoom (items entries kernels lookaheads kinds values gotos : List ℕ) (rules strings lines states codes : ℕ) : Type 0 where
  pub shaped : Shaped items (rules + strings)
  pub entries_room : strings < length entries
  pub kernels_room : lines * 4 ≤ length kernels
  pub lookaheads_room : lines * 64 ≤ length lookaheads
  pub kinds_room : 16640 ≤ length kinds
  pub values_room : 16640 ≤ length values
  pub gotos_room : 16640 ≤ length gotos
  pub few_strings : strings ≤ 127
  pub few_states : states ≤ 255
  pub few_codes : codes ≤ 64
