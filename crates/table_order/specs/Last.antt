-- The key of the last line, as a reader keeps it.
use Rattle.std.specs.Prelude.{ℕ, ◌≤◌, ◌≡◌, List, Bool, ◌||◌, eqb, length, get_or}
use Rattle.table_order.specs.Order.{below, follows}

-- a line with key k may come after so many lines, of which the last has this key
abbrev pub is_after : ℕ → List ℕ → List ℕ → Bool
is_after lines last k = eqb lines 0 || below last k

-- `last` tells which keys follow the lines l; its figures are those of a line that was taken, so no number above 65535 is among them
pub record LastIs {A : Type 0} (key : A → List ℕ) (last : List ℕ) (l : List A) : Type 0 where
  pub low : (j : ℕ) → get_or last j 0 ≤ 65535
  pub tests : (k : List ℕ) → follows key l k ≡ is_after (length l) last k

-- so many lines have been read, of which this is the last one's key
pub record HoldsLast {A : Type 0} (key : A → List ℕ) (last : List ℕ) (count : ℕ) : Type 0 where
  pub lines : List A
  pub count_is : length lines ≡ count
  pub last_is : LastIs key last lines
