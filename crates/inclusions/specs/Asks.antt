-- What the items of a state ask of the lookaheads of others, read off memory: flags at line * 64 + code.
use Rattle.std.specs.Prelude.{ℕ, suc, ◌+◌, ◌*◌, ◌-◌, ◌≤◌, ◌<◌, ◌≡◌, List, length, get_or}
use Rattle.items.specs.Layout.{left_at, length_at, mark_at}
use Rattle.memory.specs.Memory.{item_at, dot_at}
use Rattle.analysis.specs.Adds.{InRow}
use Rattle.closure.specs.InMemory.{LineIs}
use Rattle.closure.specs.Kernel.{OfLine}
use Rattle.moves.specs.Moves.{symbol_after, next_at, Present, Lined}
use Rattle.item_first.specs.Rows.{FirstRoom, FirstsAt, RowOf}
use Rattle.inclusions.specs.Groups.{group_begin}

-- line l is that of item i, dot k, and y the flag in it of a code that is flagged in a row
pub record LineAsks (kernels from : List ℕ) (codes i k start l y : ℕ) : Type 0 where
  pub item : item_at kernels l ≡ i
  pub dot : dot_at kernels l ≡ k
  pub row : InRow from start codes (l * 64) y

-- y is such a flag in a line of state s
abbrev pub LinesAsk : List ℕ → List ℕ → ℕ → ℕ → ℕ → ℕ → ℕ → ℕ → ℕ → Type 0
LinesAsk kernels from lines codes s i k start y = OfLine (LineAsks kernels from codes i k start) kernels lines s y

-- "with contexts at least as large": what item i with dot k asks of the next state of p
pub record MoveAsks (items kernels kinds values gotos from : List ℕ) (lines codes p i k start y : ℕ) : Type 0 where
  pub moves : symbol_after items i k ≡ 0 → ⊥
  pub leads : next_at kinds values gotos p (symbol_after items i k) ≡ 0 → ⊥
  pub asks : LinesAsk kernels from lines codes (next_at kinds values gotos p (symbol_after items i k)) i (k + 1) start y

-- "group j's entry context includes first(groups after j, σ)": what stands behind item i's dot b is β, the flags of σ stand in `from`, from `start` on,
-- and y is the flag of a code of first(β, σ) in the line of entry e
pub record GroupAsks (items kernels entries nul fst from : List ℕ) (rules lines codes i b e start y : ℕ) : Type 0 where
  pub some_entry : e ≡ 0 → ⊥
  pub line : ℕ
  pub is_line : LineIs kernels lines (get_or entries e 0) (rules + e) 0 line
  pub code : ℕ
  pub first : FirstsAt items codes nul fst from start i b code
  pub is : y ≡ line * 64 + code

-- the same for one of the groups of rule i
pub record GroupsAsk (items kernels entries uses nul fst from : List ℕ) (rules lines codes i start y : ℕ) : Type 0 where
  pub group : ℕ
  pub begins : group_begin items i group < length_at items i
  pub asks : GroupAsks items kernels entries nul fst from rules lines codes i (group_begin items i (suc group)) (get_or uses (i * 16 + group) 0) start y

-- what item i of p with dot k asks
pub data ItemAsks (items kernels kinds values gotos entries uses nul fst from : List ℕ) (rules lines codes p i k start y : ℕ) : Type 0 where
  by_move : MoveAsks items kernels kinds values gotos from lines codes p i k start y
      → ItemAsks items kernels kinds values gotos entries uses nul fst from rules lines codes p i k start y
  by_group : i ≤ rules → mark_at items i ≡ k → GroupsAsk items kernels entries uses nul fst from rules lines codes i start y
      → ItemAsks items kernels kinds values gotos entries uses nul fst from rules lines codes p i k start y

-- what the kernel line l of p asks
abbrev pub KernelAsks : List ℕ → List ℕ → List ℕ → List ℕ → List ℕ → List ℕ → List ℕ → List ℕ → List ℕ → List ℕ → ℕ → ℕ → ℕ → ℕ → ℕ → ℕ → Type 0
KernelAsks items kernels lookaheads kinds values gotos entries uses nul fst rules lines codes p l y =
    ItemAsks items kernels kinds values gotos entries uses nul fst lookaheads rules lines codes p (item_at kernels l) (dot_at kernels l) (l * 64) y

-- what rule i asks, where p's closure adds it
abbrev pub RuleAsks : List ℕ → List ℕ → List ℕ → List ℕ → List ℕ → List ℕ → List ℕ → List ℕ → List ℕ → List ℕ → ℕ → ℕ → ℕ → ℕ → ℕ → ℕ → Type 0
RuleAsks items kernels kinds values gotos entries uses nul fst follow rules lines codes p i y =
    ItemAsks items kernels kinds values gotos entries uses nul fst follow rules lines codes p i 0 ((left_at items i - 64) * 64) y

-- what one of the rules asks that p's closure adds
pub record RulesAsk (items kernels kinds values gotos entries uses nul fst present follow : List ℕ) (rules lines codes p y : ℕ) : Type 0 where
  pub rule : ℕ
  pub above : 1 ≤ rule
  pub below : rule ≤ rules
  pub here : Present items present rule
  pub asks : RuleAsks items kernels kinds values gotos entries uses nul fst follow rules lines codes p rule y

-- what one of the items of p asks
pub record StateAsks (items kernels lookaheads kinds values gotos entries uses nul fst present follow : List ℕ) (rules lines codes p y : ℕ) : Type 0 where
  pub item : ℕ
  pub dot : ℕ
  pub from : List ℕ
  pub start : ℕ
  pub row : RowOf items kernels lookaheads present follow rules lines p item dot from start
  pub asks : ItemAsks items kernels kinds values gotos entries uses nul fst from rules lines codes p item dot start y

-- ---- memory that is safe to read
pub record Sourced (items kernels links entries uses nul fst : List ℕ) (count rules lines codes : ℕ) : Type 0 where
  pub lined : Lined items kernels links count lines
  pub ready : FirstRoom items nul fst count codes
  pub few_rules : rules ≤ 127
  pub rules_within : rules ≤ count
  pub entries_room : 256 ≤ length entries
  pub uses_room : 2048 ≤ length uses
