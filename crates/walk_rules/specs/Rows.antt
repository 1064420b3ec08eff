-- The rows of the rules, by the memory that they are made of.
use Rattle.std.specs.Prelude.{ℕ, ◌+◌, ◌*◌, ◌-◌, ◌%◌, ◌≤◌, ◌<◌, ◌≡◌, List, length, get_or}
use Rattle.items.specs.Layout.{left_at, mark_at, unit_at}
use Rattle.walk_tables.specs.Memory.{figure_of}

-- the entries that rule i's groups use are n, then comes a 0; a rule has at most 15 groups
pub record GroupCount (uses : List ℕ) (i n : ℕ) : Type 0 where
  pub few : n ≤ 15
  pub used : (j : ℕ) → j < n → get_or uses (i * 16 + j) 0 ≡ 0 → ⊥
  pub behind : n < 15 → get_or uses (i * 16 + n) 0 ≡ 0

-- the entry states of rule i's first n groups stand in its row, of the last group first
pub record GroupsLinked (entries uses : List ℕ) (i groups n : ℕ) (rows₀ rows : List ℕ) : Type 0 where
  pub long : length rows ≡ 8448
  pub state : (j : ℕ) → j < n → get_or rows (i * 32 + 3 + groups - j) 0 ≡ get_or entries (get_or uses (i * 16 + j) 0) 0
  pub outside : (x : ℕ) → (i * 32 + 4 ≤ x → x < i * 32 + 4 + groups → ⊥) → get_or rows x 0 ≡ get_or rows₀ x 0

-- rule i's row
pub record RowLinked (items entries uses : List ℕ) (i : ℕ) (rows : List ℕ) : Type 0 where
  pub pops : figure_of rows i 0 ≡ mark_at items i
  pub left : figure_of rows i 1 ≡ left_at items i % 64
  pub unit : figure_of rows i 2 ≡ unit_at items i
  pub groups : GroupCount uses i (figure_of rows i 3)
  pub state : (j : ℕ) → j < figure_of rows i 3 → figure_of rows i (3 + figure_of rows i 3 - j) ≡ get_or entries (get_or uses (i * 16 + j) 0) 0

-- it was written, and no other
pub record RuleLinked (items entries uses : List ℕ) (i : ℕ) (rows₀ rows : List ℕ) : Type 0 where
  pub long : length rows ≡ 8448
  pub row : RowLinked items entries uses i rows
  pub outside : (x : ℕ) → (i * 32 ≤ x → x < i * 32 + 32 → ⊥) → get_or rows x 0 ≡ get_or rows₀ x 0

-- the rows of the rules below i are written, the others are still 0
pub record RulesLinked (items entries uses : List ℕ) (i : ℕ) (rows : List ℕ) : Type 0 where
  pub long : length rows ≡ 8448
  pub row : (j : ℕ) → 1 ≤ j → j < i → RowLinked items entries uses j rows
  pub rest : (x : ℕ) → i * 32 ≤ x → get_or rows x 0 ≡ 0
