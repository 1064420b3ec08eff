-- What the code has inside. Nothing here need be believed: Field says, in whole numbers, what a field is.
use Rattle.std.specs.Prelude.{ℕ, ◌≡◌, true, cond}
use Rattle.text.specs.declared.Cursor.{Cursor}
use Rattle.text.specs.declared.Class.{Class}
use Rattle.text.specs.declared.Class.TheVariants as class
use Rattle.text.specs.declared.Field.{Field}
use Rattle.text.specs.declared.Field.TheVariants as field
use Rattle.text.specs.declared.Sum.{Sum}

-- Document 02, S-6: "Use a 16-bit number inside, testing before each step. No reply differs for any field, however long."
abbrev pub summed : Sum → ℕ
summed n = cond n.above 65536 n.value

-- behind what is kept of a number above 65,535 no digit fits
abbrev pub Saturated : Sum → Type 0
Saturated n = n.above ≡ true → n.value ≡ 65535

-- a field of one byte, by its class; of the digits, 0
abbrev pub single_of : Class → ℕ → Cursor → Field
single_of class.Digit b c = field.Number 0 c
single_of class.Letter b c = field.Letter b c
single_of class.Mark b c = field.Mark b c
single_of class.Other b c = field.Broken
