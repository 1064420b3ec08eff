-- What is asked of a state's cells, a number for each code: 256 for a shift, 512 + i for announcing rule i, 768 + n for popping where an entry of n
-- symbols is finished, 0 for nothing.
use Rattle.std.specs.Prelude.{ℕ, ◌+◌, ◌*◌, ◌-◌, ◌≤◌, ◌<◌, ◌≡◌, List, get_or}
use Rattle.language.specs.Grammar.{Grammar}
use Rattle.leftcorner.specs.Table.{Table, Action, S, N, A, P}
use Rattle.leftcorner.specs.Construction.{Asked}
use Rattle.items.specs.Layout.{left_at, length_at, mark_at}
use Rattle.fixpoint.specs.Flags.{On}
use Rattle.memory.specs.Memory.{state_at, item_at, dot_at, pop_value}
use Rattle.moves.specs.Moves.{Present}
use Rattle.item_first.specs.Rows.{FirstsAt}

-- what item i with dot k asks, where the flags of its lookaheads stand in `from`, from `start` on: "at the recognition point with rest β and
-- context σ, announce on each of first(β, σ)"; "A finished entry item pops 1 plus its length on each code of its context."
pub data ItemAsks (items nul fst from : List ℕ) (rules codes i k start c v : ℕ) : Type 0 where
  announces : mark_at items i ≡ k → FirstsAt items codes nul fst from start i k c → v ≡ 512 + i → ItemAsks items nul fst from rules codes i k start c v
  pops : (mark_at items i ≡ k → ⊥) → rules < i → length_at items i ≡ k → c < codes → On from (start + c) → v ≡ 768 + k → ItemAsks items nul fst from rules codes i k start c v

-- what the kernel items of q ask
pub record LinesAsk (items nul fst kernels lookaheads : List ℕ) (rules lines codes q c v : ℕ) : Type 0 where
  pub line : ℕ
  pub low : line < lines
  pub state : state_at kernels line ≡ q
  pub asks : ItemAsks items nul fst lookaheads rules codes (item_at kernels line) (dot_at kernels line) (line * 64) c v

abbrev pub RuleAsks : List ℕ → List ℕ → List ℕ → List ℕ → ℕ → ℕ → ℕ → ℕ → ℕ → Type 0
RuleAsks items nul fst follow rules codes i c v = ItemAsks items nul fst follow rules codes i 0 ((left_at items i - 64) * 64) c v

-- what the rules ask that the closure adds
pub record RulesAsk (items nul fst present follow : List ℕ) (rules codes c v : ℕ) : Type 0 where
  pub rule : ℕ
  pub above : 1 ≤ rule
  pub below : rule < rules + 1
  pub present_rule : Present items present rule
  pub asks : RuleAsks items nul fst follow rules codes rule c v

-- an action as a number
abbrev pub demand_of : Action → ℕ
demand_of (S s) = 256
demand_of (N s) = 0
demand_of (A i) = 512 + i
demand_of (P n) = 768 + pop_value n

-- the numbers are those of the actions that the items of q ask for
pub record HoldsAsked (g : Grammar) (t : Table) (F : List ℕ → ℕ → ℕ → Type 0) (q : ℕ) (asked : List ℕ) : Type 0 where
  pub only : (c : ℕ) → c < 64 → On asked c → (x : Action) × Asked g t F q c x × (demand_of x ≡ get_or asked c 0)
  pub every : (c : ℕ) (x : Action) → c < 64 → Asked g t F q c x → get_or asked c 0 ≡ demand_of x

-- two different actions that the items of q ask of code c's cell, and their numbers. Document 01, 'Replies': "one cell would hold two different
-- actions".
pub record Conflict (g : Grammar) (t : Table) (F : List ℕ → ℕ → ℕ → Type 0) (q c v w : ℕ) : Type 0 where
  pub first : Action
  pub second : Action
  pub first_asked : Asked g t F q c first
  pub second_asked : Asked g t F q c second
  pub first_number : demand_of first ≡ v
  pub second_number : demand_of second ≡ w
  pub differ : first ≡ second → ⊥

-- others are named exactly where two different actions are asked of one cell; such a number and the one that is asked are then those of two
pub record HoldsConflicts (g : Grammar) (t : Table) (F : List ℕ → ℕ → ℕ → Type 0) (q : ℕ) (asked others : List ℕ) : Type 0 where
  pub only : (c : ℕ) → c < 64 → On others c → Conflict g t F q c (get_or asked c 0) (get_or others c 0)
  pub every : (c : ℕ) (x y : Action) → c < 64 → Asked g t F q c x → Asked g t F q c y → (x ≡ y → ⊥) → On others c
