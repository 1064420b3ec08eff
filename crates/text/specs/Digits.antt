-- How a number is written: in decimal, its first digit no 0 but where it is 0 itself.
use Rattle.std.specs.Prelude.{ℕ, ◌+◌, ◌/◌, ◌%◌, List, [], ◌∷◌, ◌++◌, cond, ltb}

-- the digit of v that p stands for, where v has it
unfoldable pub lead : ℕ → ℕ → List ℕ
lead p v = cond (ltb v p) [] ((48 + v / p % 10) ∷ [])

-- the digits of a number up to 65,535
unfoldable pub digits : ℕ → List ℕ
digits v = lead 10000 v ++ (lead 1000 v ++ (lead 100 v ++ (lead 10 v ++ ((48 + v % 10) ∷ []))))
