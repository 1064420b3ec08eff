-- The cells of the builder's table in memory.
use Rattle.std.specs.Prelude.{ℕ, zero, suc, ◌+◌, ◌*◌, ◌≤◌, ◌<◌, ◌≡◌, ◌⊎◌, List, length, get_or}
use Rattle.std.proofs.Math.Option.{Option}
use Rattle.language.specs.Grammar.{Grammar, IsNonterminal}
use Rattle.language.specs.Sentence.{AllProductive, Reachable}
use Rattle.std.specs.Prelude.{◌↔◌}
use Rattle.leftcorner.specs.Table.{Action, S, Table}
use Rattle.leftcorner.specs.Construction.{Asked, CellsAgree}
use Rattle.analysis.specs.ByRules.{FirstByRules}
use Rattle.analysis.proofs.Decided.{first?}
use Rattle.memory.specs.Memory.{HoldsItems, HoldsEntries, HoldsKernels, HoldsActions, kind_of, value_of}
use Rattle.analysis.specs.FirstBy.{FirstBy}
use Rattle.closure.specs.Prepared.{Prepared}
use Rattle.moves.specs.Moves.{Lined}
use Rattle.build_states.specs.Strings.{entry_strings}
use Rattle.build_states.specs.States.{total, states, goto}
use Rattle.build_states.proofs.Limits.{Limits}
use Rattle.build_book.specs.Built.{items, cell_action, built}
use Rattle.build_states.specs.Lookaheads.{terminal_codes}
use Rattle.build_states.proofs.CodeLaws.{first_in}
use Rattle.build_cells.specs.Fill.{KeptAt}

-- the table that the builder writes, and what it is without its action lines
module _ (g : Grammar) where
  abbrev pub items_of : Table
  items_of = items g (FirstByRules g) (first? g) (terminal_codes g) (first_in g)

  abbrev pub table_of : Table
  table_of = built g (FirstByRules g) (first? g) (terminal_codes g) (first_in g)

  abbrev pub cell_of : ℕ → ℕ → Option Action
  cell_of q X = cell_action g (FirstByRules g) (first? g) (terminal_codes g) (first_in g) q X

  abbrev pub AskedOf : ℕ → ℕ → Action → Type 0
  AskedOf q X x = Asked g items_of (FirstByRules g) q X x

  -- not "one cell would hold two different actions"
  abbrev pub Agree : ℕ → Type 0
  Agree q = CellsAgree g items_of (FirstByRules g) q

  -- ---- what memory holds already

  -- q's cell for terminal c: a shift where something moves, else nothing
  pub record ShiftAt (kinds values : List ℕ) (q c : ℕ) : Type 0 where
    pub shift : AskedOf q c (S 0) → (get_or kinds (q * 64 + c) 0 ≡ 1) × (get_or values (q * 64 + c) 0 ≡ goto g q c)
    pub empty : (AskedOf q c (S 0) → ⊥) → (get_or kinds (q * 64 + c) 0 ≡ 0) × (get_or values (q * 64 + c) 0 ≡ 0)

  -- q's next state for nonterminal 64 + b
  pub record NextAt (gotos : List ℕ) (q b : ℕ) : Type 0 where
    pub next : AskedOf q (64 + b) (S 0) → get_or gotos (q * 64 + b) 0 ≡ goto g q (64 + b)
    pub none : (AskedOf q (64 + b) (S 0) → ⊥) → get_or gotos (q * 64 + b) 0 ≡ 0

  -- "Shift, or N, on each possible move", and nothing else yet
  pub record HoldsMoves (kinds values gotos : List ℕ) : Type 0 where
    pub shifts : (q c : ℕ) → q < 256 → c < 64 → ShiftAt kinds values q c
    pub nexts : (q b : ℕ) → q < 256 → b < 64 → NextAt gotos q b

  -- the grammar, its entries, and the kernel lines of its states with their lookaheads; flags say what is first
  pub record HoldsLines (m entries kernels lookaheads nul fst : List ℕ) (rules strings lines all codes : ℕ) : Type 0 where
    pub limits : Limits g
    pub productive : AllProductive g
    pub reached : (X : ℕ) → IsNonterminal g X → Reachable g X
    pub same_first : (β : List ℕ) (d c : ℕ) → FirstBy codes nul fst β d c ↔ FirstByRules g β d c
    pub rule_count : length g.rules ≡ rules
    pub entry_count : length (entry_strings g) ≡ strings
    pub line_count : total (states g) ≡ lines
    pub state_count : length (states g) ≡ all
    pub code_count : codes ≡ suc g.terminals
    pub holds_items : HoldsItems m g items_of
    pub holds_entries : HoldsEntries entries items_of
    pub holds_kernels : HoldsKernels kernels lookaheads items_of

  -- ---- what is found

  -- the cell of q for code c holds this
  pub record CellIs (kinds values : List ℕ) (q c : ℕ) (o : Option Action) : Type 0 where
    pub kind : get_or kinds (q * 64 + c) 0 ≡ kind_of o
    pub value : get_or values (q * 64 + c) 0 ≡ value_of o

  -- q's cells are the table's, and no others changed
  pub record StateFilled (q : ℕ) (kinds₀ values₀ kinds values : List ℕ) : Type 0 where
    pub here : (c : ℕ) → c < 64 → ShiftAt kinds₀ values₀ q c → CellIs kinds values q c (cell_of q c)
    pub other : (y : ℕ) → (y < q * 64) ⊎ (q * 64 + 64 ≤ y) → KeptAt kinds₀ values₀ kinds values y

  -- the states below q agree and have their cells
  pub record Filling (q : ℕ) (kinds₀ values₀ kinds values : List ℕ) : Type 0 where
    pub agree : (p : ℕ) → 1 ≤ p → p < q → Agree p
    pub done : (p c : ℕ) → 1 ≤ p → p < q → c < 64 → ShiftAt kinds₀ values₀ p c → CellIs kinds values p c (cell_of p c)
    pub rest : (y : ℕ) → (y < 64) ⊎ (q * 64 ≤ y) → KeptAt kinds₀ values₀ kinds values y

  -- all states agree, and memory holds the table's action lines; or "state, lowest" of those whose items do not agree
  abbrev pub Filled : List ℕ → List ℕ → List ℕ → ℕ → Type 0
  Filled kinds values gotos zero = ((q : ℕ) → Agree q) × HoldsActions kinds values gotos table_of
  Filled kinds values gotos (suc q) = (suc q ≤ length (states g)) × (Agree (suc q) → ⊥) × ((k : ℕ) → k < suc q → Agree k)

-- memory that is safe to read and to fill
pub record StateRoom (m kernels links lookaheads nul fst starts through : List ℕ) (count rules strings lines codes : ℕ) : Type 0 where
  pub all_items : count ≡ rules + strings
  pub lined : Lined m kernels links count lines
  pub codes_room : lines * 64 ≤ length lookaheads
  pub nul_room : length nul ≡ 128
  pub fst_room : length fst ≡ 8192
  pub starts_room : length starts ≡ 8192
  pub through_room : length through ≡ 128
  pub prepared : Prepared m (rules + 1) codes nul fst starts through
  pub few_codes : codes ≤ 64
  pub few_rules : rules ≤ 127
  pub few_strings : strings ≤ 127
