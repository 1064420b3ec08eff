-- Flags in rows of 64, a row for each symbol, a column for each code.
use Rattle.std.specs.Prelude.{ℕ, ◌+◌, ◌*◌, ◌/◌, ◌%◌, ◌<◌, ◌≡◌}
use Rattle.std.proofs.Common.{sym, subst₂, arith}

-- the place of code c in row x
abbrev pub cell : ℕ → ℕ → ℕ
cell x c = x * 64 + c

-- Q of the row and the column of a place
abbrev pub Row : (ℕ → ℕ → Type 0) → ℕ → Type 0
Row Q y = Q (y / 64) (y % 64)

pub cell_row : (x c : ℕ) → c < 64 → (x * 64 + c) / 64 ≡ x
cell_row x c l = omega arith

pub cell_column : (x c : ℕ) → c < 64 → (x * 64 + c) % 64 ≡ c
cell_column x c l = omega arith

pub row_cell : (y : ℕ) → cell (y / 64) (y % 64) ≡ y
row_cell y = omega arith

pub column_low : (y : ℕ) → y % 64 < 64
column_low y = omega arith

pub to_row : (Q : ℕ → ℕ → Type 0) (x c : ℕ) → c < 64 → Q x c → Row Q (cell x c)
to_row Q x c l q = subst₂ Q (sym (cell_row x c l)) (sym (cell_column x c l)) q

pub from_row : (Q : ℕ → ℕ → Type 0) (x c : ℕ) → c < 64 → Row Q (cell x c) → Q x c
from_row Q x c l q = subst₂ Q (cell_row x c l) (cell_column x c l) q
