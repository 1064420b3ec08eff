-- What a field of a book is. Document 01, 'Books': "A book is ASCII lines, each ended by LF, its fields in fixed order parted
-- by commas, no quoting. A field is a number, a mark or a letter, never empty." Document 02, S-2: "A number with a leading zero is
-- now torn; 0 alone remains good."
use Rattle.std.specs.Prelude.{ℕ, ◌+◌, ◌-◌, ◌*◌, min, List, [], ◌∷◌, Bool, true, false, cond, ◌&&◌, ◌||◌, drop, eqb}
use Rattle.range.specs.Range.{within}
use Rattle.text.specs.declared.Cursor.{Cursor}
use Rattle.text.specs.declared.Class.{Class}
use Rattle.text.specs.declared.Class.TheVariants as class
use Rattle.text.specs.declared.End.{End}
use Rattle.text.specs.declared.End.TheVariants.{Past, Missing}
use Rattle.text.specs.declared.Field.{Field}
use Rattle.text.specs.declared.Field.TheVariants as field

-- `0` to `9` are 48 to 57, `A` to `Z` are 65 to 90, `/` is 47 and `^` 94
unfoldable pub class_of : ℕ → Class
class_of b =
    cond (within 48 b 57) class.Digit
    (cond (within 65 b 90) class.Letter
    (cond (eqb b 47 || eqb b 94) class.Mark class.Other))

-- a field ends at a comma, 44, or at an LF, 10, which ends the line too
unfoldable pub end_of : List ℕ → ℕ → End
end_of [] at = Missing
end_of (b ∷ l) at =
    cond (eqb b 44) (Past (record { at = at + 1; ended = false }))
    (cond (eqb b 10) (Past (record { at = at + 1; ended = true })) Missing)

-- a number with one digit more; 65536 stands for every number above 65535
unfoldable pub add_digit : ℕ → ℕ → ℕ
add_digit v b = min (v * 10 + (b - 48)) 65536

-- a field, by what ends it
abbrev pub closed : (Cursor → Field) → End → Field
closed f (Past c) = f c
closed f Missing = field.Broken

abbrev pub on_digit : {A : Type 0} → Class → A → A → A
on_digit class.Digit x y = x
on_digit class.Letter x y = y
on_digit class.Mark x y = y
on_digit class.Other x y = y

-- a number of which v is read, from the bytes at `at` on
unfoldable pub digits_from : List ℕ → ℕ → ℕ → Field
digits_from [] at v = field.Broken
digits_from (b ∷ l) at v =
    on_digit (class_of b) (digits_from l (at + 1) (add_digit v b)) (closed (field.Number v) (end_of (b ∷ l) at))

-- bytes that begin with a leading zero: `0`, 48, and a further digit
abbrev pub padded : List ℕ → Bool
padded [] = false
padded (b ∷ []) = false
padded (b ∷ c ∷ l) = eqb b 48 && within 48 c 57

-- a field that begins with b and goes on with l, by the class of b
abbrev pub by_class : Class → ℕ → List ℕ → ℕ → Field
by_class class.Digit b l at = cond (padded (b ∷ l)) field.Broken (digits_from (b ∷ l) at 0)
by_class class.Letter b l at = closed (field.Letter b) (end_of l (at + 1))
by_class class.Mark b l at = closed (field.Mark b) (end_of l (at + 1))
by_class class.Other b l at = field.Broken

abbrev pub field_of : List ℕ → ℕ → Field
field_of [] at = field.Broken
field_of (b ∷ l) at = by_class (class_of b) b l at

-- the field at a cursor; past the line's LF there is none
unfoldable pub field_at : List ℕ → Cursor → Field
field_at s c = cond c.ended field.Broken (field_of (drop c.at s) c.at)

-- what is done with a field that must be a number, and with one that must be a letter
abbrev pub on_number : {A : Type 0} → Field → (ℕ → Cursor → A) → A → A
on_number (field.Number v c) k y = k v c
on_number (field.Mark b c) k y = y
on_number (field.Letter b c) k y = y
on_number field.Broken k y = y

abbrev pub on_letter : {A : Type 0} → Field → (ℕ → Cursor → A) → A → A
on_letter (field.Letter b c) k y = k b c
on_letter (field.Number v c) k y = y
on_letter (field.Mark b c) k y = y
on_letter field.Broken k y = y
