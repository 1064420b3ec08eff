-- One nonterminal's choices in memory, and what they leave as it was.
use Rattle.std.specs.Prelude.{◌≡◌, ℕ, zero, suc, ◌+◌, ◌<◌, cond, List, length, ◌≢◌, nat_lt, slice_index}
use Rattle.language.specs.Grammar.{Grammar, IsNonterminal}
use Rattle.items.specs.Layout.{left_at}
use Rattle.generate_loads.specs.Load.{shortest}
use Rattle.generate_heights.specs.Heights.{Source, HoldsHeights}
use Rattle.generate_heights.specs.Rows.{rows_of}
use Rattle.generate_choices.specs.Choices.{start_at, count_at, shortest_at, listed_at}

-- how many of k rows from i on have a left side below X
abbrev pub rows_below : List ℕ → ℕ → ℕ → ℕ → ℕ
rows_below items X i zero = 0
rows_below items X i (suc k) = cond (nat_lt (left_at items i) X) 1 0 + rows_below items X (suc i) k

-- the choices of X, whose rules begin at `start`; the shortest is by these heights
pub record Stored (items : List ℕ) (rules : ℕ) (heights choices : List ℕ) (X start : ℕ) : Type 0 where
  pub start_is : start_at choices X ≡ start
  pub count_is : count_at choices X ≡ length (rows_of items X 1 rules)
  pub rule_is : (k : ℕ) → k < length (rows_of items X 1 rules) → listed_at choices (start + k) ≡ slice_index (rows_of items X 1 rules) k
  pub shortest_is : (g : Grammar) → Source items rules g → HoldsHeights g heights → IsNonterminal g X → shortest_at choices X ≡ shortest g X

-- all stays but the places of X, and the list from `start` on
pub record Keeps (X start : ℕ) (before after : List ℕ) : Type 0 where
  pub kept : (j : ℕ) → j < 512 + start → (j ≢ 128 + X) → (j ≢ 256 + X) → (j ≢ 384 + X) → slice_index after j ≡ slice_index before j
