-- Fields read by computing: `0` alone is a number, and nothing may follow a first 0 but the end of the field.
use Prim.Native.Nat.{ℕ}
use mathlib.Core.Path.{◌≡◌, refl}
use mathlib.Core.Bool.{true, false}
use mathlib.Core.List.{List, [], ◌∷◌}
use Rattle.range.specs.Range.{within}
use Rattle.text.specs.declared.Field.{Field}
use Rattle.text.specs.declared.Field.TheVariants.{Number, Broken}
use Rattle.text.specs.Field.{class_of, end_of, add_digit, digits_from, field_at}

first : List ℕ → Field
first s = field_at s (record { at = 0; ended = false })

-- `0,` and `0` with an LF
alone : first (48 ∷ 44 ∷ []) ≡ Number 0 (record { at = 2; ended = false })
unfolding first field_at digits_from add_digit end_of class_of within
alone = refl

alone_last : first (48 ∷ 10 ∷ []) ≡ Number 0 (record { at = 2; ended = true })
unfolding first field_at digits_from add_digit end_of class_of within
alone_last = refl

-- `00,`, `07,`, `0A,` and `0` at the book's end
twice : first (48 ∷ 48 ∷ 44 ∷ []) ≡ Broken
unfolding first field_at digits_from add_digit end_of class_of within
twice = refl

padded : first (48 ∷ 55 ∷ 44 ∷ []) ≡ Broken
unfolding first field_at digits_from add_digit end_of class_of within
padded = refl

letter : first (48 ∷ 65 ∷ 44 ∷ []) ≡ Broken
unfolding first field_at digits_from add_digit end_of class_of within
letter = refl

book_end : first (48 ∷ []) ≡ Broken
unfolding first field_at digits_from add_digit end_of class_of within
book_end = refl

-- `065536,` is torn, `70000,` oversize, `100,` a number
padded_over : first (48 ∷ 54 ∷ 53 ∷ 53 ∷ 51 ∷ 54 ∷ 44 ∷ []) ≡ Broken
unfolding first field_at digits_from add_digit end_of class_of within
padded_over = refl

over : first (55 ∷ 48 ∷ 48 ∷ 48 ∷ 48 ∷ 44 ∷ []) ≡ Number 65536 (record { at = 6; ended = false })
unfolding first field_at digits_from add_digit end_of class_of within
over = refl

hundred : first (49 ∷ 48 ∷ 48 ∷ 44 ∷ []) ≡ Number 100 (record { at = 4; ended = false })
unfolding first field_at digits_from add_digit end_of class_of within
hundred = refl
