-- Kernel lines in memory, and links that lead from each line to the one before it for the same state.
use Rattle.std.specs.Prelude.{ℕ, zero, suc, ◌+◌, ◌*◌, ◌≤◌, ◌<◌, ◌≡◌, cond, List, eqb, length, get_or}
use Rattle.fixpoint.specs.declared.Found.{Found}
use Rattle.memory.specs.Memory.{state_at, item_at, dot_at}

-- what the code needs of memory to read that many kernel lines, whatever they mean
pub record Lines (kernels : List ℕ) (lines items : ℕ) : Type 0 where
  pub room : lines * 4 ≤ length kernels
  pub few : lines ≤ 1023
  pub item_low : (l : ℕ) → l < lines → item_at kernels l ≤ items
  pub dot_low : (l : ℕ) → l < lines → dot_at kernels l ≤ 15

-- line l is that of item i, dot k in state q
pub record IsLine (kernels : List ℕ) (lines q i k l : ℕ) : Type 0 where
  pub low : l < lines
  pub state : state_at kernels l ≡ q
  pub item : item_at kernels l ≡ i
  pub dot : dot_at kernels l ≡ k

-- there is such a line
pub record LineAt (kernels : List ℕ) (lines q i k : ℕ) : Type 0 where
  pub line : ℕ
  pub is_it : IsLine kernels lines q i k line

-- what a search for it finds
abbrev pub Finds : List ℕ → ℕ → ℕ → ℕ → ℕ → Found → Type 0
Finds kernels lines q i k (Found.At l) = IsLine kernels lines q i k l
Finds kernels lines q i k Found.Nothing = LineAt kernels lines q i k → ⊥

-- one more than the last line before l for state q; 0 where there is none
unfoldable pub last_before : List ℕ → ℕ → ℕ → ℕ
last_before kernels q zero = 0
last_before kernels q (suc l) = cond (eqb (state_at kernels l) q) (suc l) (last_before kernels q l)

-- links: at l the line before line l for the same state, at 1024 + q the last line for q
pub record Linked (kernels links : List ℕ) (lines : ℕ) : Type 0 where
  pub room : 1280 ≤ length links
  pub previous : (l : ℕ) → l < lines → get_or links l 0 ≡ last_before kernels (state_at kernels l) l
  pub last : (q : ℕ) → q < 256 → get_or links (1024 + q) 0 ≡ last_before kernels q lines
