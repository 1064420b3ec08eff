-- The rules of a nonterminal as they stand in memory.
use Rattle.std.specs.Prelude.{ℕ, zero, suc, cond, List, [], ◌∷◌, eqb}
use Rattle.items.specs.Layout.{left_at}

-- the numbers of the rules of X among k rows from i on
abbrev pub rows_of : List ℕ → ℕ → ℕ → ℕ → List ℕ
rows_of items X i zero = []
rows_of items X i (suc k) = cond (eqb (left_at items i) X) (i ∷ rows_of items X (suc i) k) (rows_of items X (suc i) k)
