-- What the field reader promises of numbers. Document 02, S-2: "Hospitals compare books with a byte tool, and 07 against 7 shows as
-- a difference. A number with a leading zero is now torn; 0 alone remains good. This binds every line of every book, so what the
-- field reader promises changes, and each line reader above it."
use Rattle.std.specs.Prelude.{ℕ, ◌+◌, ◌≤◌, ◌≡◌, List, ◌∷◌, ◌++◌, Bool, true, false, length, drop}
use Rattle.text.specs.declared.Cursor.{Cursor}
use Rattle.text.specs.declared.Class.TheVariants as class
use Rattle.text.specs.declared.Field.TheVariants as field
use Rattle.text.specs.Digits.{digits}
use Rattle.text.specs.Field.{class_of, field_at}

-- the byte that ends a field: LF, 10, where it ends the line too, else a comma, 44
abbrev pub ending : Bool → ℕ
ending true = 10
ending false = 44

-- the field at c is spelled w: from c on s has the bytes w, then the byte that ends the field, and d is the cursor past it
pub record Spelled (s : List ℕ) (c : Cursor) (w : List ℕ) (d : Cursor) : Type 0 where
  pub going : c.ended ≡ false
  pub bytes : drop c.at s ≡ w ++ ending d.ended ∷ drop d.at s
  pub place : d.at ≡ c.at + length w + 1

pub record Promise (s : List ℕ) (c : Cursor) : Type 0 where
  -- a number of a book has one spelling, its digits,
  pub number_written : (v : ℕ) (d : Cursor) → v ≤ 65535 → field_at s c ≡ field.Number v d → Spelled s c (digits v) d
  -- and every number written so reads as itself, 0 among them
  pub written_number : (v : ℕ) (d : Cursor) → v ≤ 65535 → Spelled s c (digits v) d → field_at s c ≡ field.Number v d
  -- a `0`, 48, before a further digit is torn, however many follow: `065536` is not oversize
  pub leading_zero : (b : ℕ) (l : List ℕ) → drop c.at s ≡ 48 ∷ b ∷ l → class_of b ≡ class.Digit → field_at s c ≡ field.Broken

abbrev pub NumberPromise : Type 0
NumberPromise = (s : List ℕ) (c : Cursor) → Promise s c
