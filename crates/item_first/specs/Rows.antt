-- The items of a state in memory, each with the row of flags of its lookaheads.
use Rattle.std.specs.Prelude.{ℕ, zero, ◌+◌, ◌*◌, ◌-◌, ◌≤◌, ◌<◌, ◌≡◌, List, length}
use Rattle.items.specs.Layout.{Shaped, left_at}
use Rattle.fixpoint.specs.Flags.{On}
use Rattle.memory.specs.Memory.{state_at, item_at, dot_at}
use Rattle.analysis.specs.FirstBy.{FirstBy}
use Rattle.analysis.specs.Rests.{rest_at}
use Rattle.moves.specs.Moves.{Present}

-- what the code needs of memory to find first sets, whatever it holds
pub record FirstRoom (items nul fst : List ℕ) (count codes : ℕ) : Type 0 where
  pub shaped : Shaped items count
  pub few_codes : codes ≤ 64
  pub nul_room : length nul ≡ 128
  pub fst_room : length fst ≡ 8192

-- code c is in first(β, σ): β stands behind item i's dot k, and the flags of σ in `from`, from `start` on
pub record FirstsAt (items : List ℕ) (codes : ℕ) (nul fst from : List ℕ) (start i k c : ℕ) : Type 0 where
  pub code : ℕ
  pub low : code < codes
  pub on : On from (start + code)
  pub first : FirstBy codes nul fst (rest_at items i k) code c

module _ (items kernels lookaheads present follow : List ℕ) (rules lines : ℕ) where
  -- q's closure has item i, dot k, and the flags of the lookaheads that it has so stand in `from`, from `start` on: a kernel line, or a rule of a
  -- nonterminal that is expanded
  pub data RowOf (q : ℕ) : ℕ → ℕ → List ℕ → ℕ → Type 0 where
    of_line : (l : ℕ) → l < lines → state_at kernels l ≡ q → RowOf q (item_at kernels l) (dot_at kernels l) lookaheads (l * 64)
    of_rule : (i : ℕ) → 1 ≤ i → i ≤ rules → Present items present i → RowOf q i zero follow ((left_at items i - 64) * 64)
