-- The whole number that digits write, however many they are. Document 01, 'Books': "A number is digits".
use Rattle.std.specs.Prelude.{ℕ, ◌+◌, ◌-◌, ◌*◌, List, [], ◌∷◌, drop}
use Rattle.text.specs.Field.{class_of, on_digit}

-- v, with the digits that the bytes begin with written after it
unfoldable pub exact_from : ℕ → List ℕ → ℕ
exact_from v [] = v
exact_from v (b ∷ l) = on_digit (class_of b) (exact_from (v * 10 + (b - 48)) l) v

-- the number that stands at a position of a book
unfoldable pub exact_at : List ℕ → ℕ → ℕ
exact_at s at = exact_from 0 (drop at s)
