-- Parts of items in memory, and the entries with their strings.
use Rattle.std.specs.Prelude.{ℕ, ◌+◌, ◌≤◌, ◌<◌, ◌≡◌, List}
use Rattle.items.specs.Layout.{length_at, symbol_at}

-- item e's string is n symbols of item i, from `from` on
pub record SamePart (items : List ℕ) (i from n e : ℕ) : Type 0 where
  pub same_length : length_at items e ≡ n
  pub same_symbols : (j : ℕ) → j < n → symbol_at items i (from + j) ≡ symbol_at items e j

-- r is the number of an entry with that string; 0 where there is none
pub record FindsEntry (items : List ℕ) (rules strings i from n r : ℕ) : Type 0 where
  pub low : r ≤ strings
  pub none : r ≡ 0 → (k : ℕ) → 1 ≤ k → k < strings + 1 → SamePart items i from n (rules + k) → ⊥
  pub some : (r ≡ 0 → ⊥) → SamePart items i from n (rules + r)
