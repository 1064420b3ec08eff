-- What moves from a state, read off memory.
use Rattle.std.specs.Prelude.{ℕ, zero, suc, ◌+◌, ◌*◌, ◌-◌, ◌≤◌, ◌<◌, ◌≡◌, ◌⊎◌, cond, List, eqb, ltb, length, get_or}
use Rattle.items.specs.Layout.{Shaped, left_at, length_at, mark_at, symbol_at}
use Rattle.fixpoint.specs.Flags.{On}
use Rattle.memory.specs.Memory.{state_at, item_at, dot_at}
use Rattle.kernel_lines.specs.Lines.{Lines, LineAt, Linked}

-- the symbol before which item i's dot k stands, and not at its recognition point; 0 where there is none
unfoldable pub symbol_after : List ℕ → ℕ → ℕ → ℕ
symbol_after items i k = cond (ltb k (length_at items i)) (cond (eqb (mark_at items i) k) 0 (symbol_at items i k)) 0

-- the next state of q's line S or N for X; 0 where there is none
unfoldable pub next_at : List ℕ → List ℕ → List ℕ → ℕ → ℕ → ℕ
next_at kinds values gotos q X =
    cond (ltb X 64) (cond (eqb (get_or kinds (q * 64 + X) 0) 1) (get_or values (q * 64 + X) 0) 0) (get_or gotos (q * 64 + (X - 64)) 0)

-- rule i's left side is flagged
pub record Present (items present : List ℕ) (i : ℕ) : Type 0 where
  pub nonterminal : 64 ≤ left_at items i
  pub flagged : On present (left_at items i - 64)

module _ (items kernels present : List ℕ) (rules lines : ℕ) where
  -- q's closure has item i, dot k; `present` flags the nonterminals that it expands
  pub data HasAt (q i : ℕ) : ℕ → Type 0 where
    by_line : {k : ℕ} → LineAt kernels lines q i k → HasAt q i k
    by_rule : 1 ≤ i → i ≤ rules → Present items present i → HasAt q i zero

  pub data MovedAt (q X i : ℕ) : ℕ → Type 0 where
    moved : {k : ℕ} → symbol_after items i k ≡ X → HasAt q i k → MovedAt q X i (suc k)

  -- something moves from q on X
  pub record MovesOn (q X : ℕ) : Type 0 where
    pub item : ℕ
    pub dot : ℕ
    pub it_moves : MovedAt q X item dot

  -- every line of s came by a move from q on X
  abbrev pub OnlyMoved : ℕ → ℕ → ℕ → Type 0
  OnlyMoved q X s = (l : ℕ) → l < lines → state_at kernels l ≡ s → MovedAt q X (item_at kernels l) (dot_at kernels l)

-- the flags in fs are those that were in fs₀ and, apart from that for 0, those of symbols on which something moves
pub record Flagged (items kernels present : List ℕ) (rules lines q : ℕ) (fs₀ fs : List ℕ) : Type 0 where
  pub long : length fs ≡ 128
  pub kept : (X : ℕ) → On fs₀ X → On fs X
  pub only : (X : ℕ) → On fs X → On fs₀ X ⊎ MovesOn items kernels present rules lines q X

-- ---- memory that is safe to read
pub record Lined (items kernels links : List ℕ) (count lines : ℕ) : Type 0 where
  pub shaped : Shaped items count
  pub some_lines : Lines kernels lines count
  pub linked : Linked kernels links lines

pub record Readable (items kernels links present : List ℕ) (count rules lines : ℕ) : Type 0 where
  pub lined : Lined items kernels links count lines
  pub few : rules ≤ count
  pub room : length present ≡ 64

-- cells by state and code, next states by state and nonterminal
pub record Cells (kinds values gotos : List ℕ) : Type 0 where
  pub kinds_room : 16384 ≤ length kinds
  pub values_room : 16384 ≤ length values
  pub gotos_room : 16384 ≤ length gotos
