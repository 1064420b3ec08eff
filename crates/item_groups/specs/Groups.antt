-- The groups of rules in memory.
use Rattle.std.specs.Prelude.{ℕ, ◌+◌, ◌≤◌, ◌<◌, ◌≡◌, List, length, get_or}
use Rattle.items.specs.Layout.{length_at, symbol_at, start_at}

-- the group of item i that begins at `from` ends before `to`
pub record GroupEnd (items : List ℕ) (i from to : ℕ) : Type 0 where
  pub past : from < to
  pub within : to ≤ length_at items i
  pub inside : (k : ℕ) → from < k → k < to → start_at items i k ≡ 0
  pub edge : to < length_at items i → start_at items i to ≡ 0 → ⊥

-- γ is n symbols of item i, from `from` on
pub record PartIs (items : List ℕ) (i from n : ℕ) (γ : List ℕ) : Type 0 where
  pub width : length γ ≡ n
  pub symbols : (j : ℕ) → j < n → symbol_at items i (from + j) ≡ get_or γ j 0
