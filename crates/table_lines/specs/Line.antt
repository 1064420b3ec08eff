-- A line of a table book or a letters book: a letter, then numbers. Document 01, 'Books': "A book is ASCII lines, each ended by LF, its
-- fields in fixed order parted by commas". No such line has a mark.
use Rattle.std.specs.Prelude.{ℕ, zero, suc, min, ◌≡◌, List, [], ◌∷◌, ◌++◌, Bool, true, false, cond, ◌&&◌, ltb, leb, length}
use Rattle.std.proofs.lemmas.List.Edits.{sets}
use Rattle.text.specs.declared.Cursor.{Cursor}
use Rattle.text.specs.Field.{field_at, on_number, on_letter}
use Rattle.digits.specs.Exact.{exact_at}

-- a line's letter, its numbers as the whole numbers they are, however long, and the position past its LF
pub data TextLine : Type 0 where
  whole : ℕ → List ℕ → ℕ → TextLine
  broken : TextLine

-- the numbers from c on to the line's end, after those already read. A line has fewer fields than its book has bytes, so no line
-- is broken for want of a budget: `budget_suffices` (proofs/BudgetLaws.antt).
unfoldable pub numbers_from : ℕ → List ℕ → ℕ → Cursor → List ℕ → TextLine
numbers_from zero s letter c ns = broken
numbers_from (suc k) s letter c ns =
    cond c.ended (whole letter ns c.at) (on_number (field_at s c) (λ v d. numbers_from k s letter d (ns ++ exact_at s c.at ∷ [])) broken)

-- the line that begins at `at`
unfoldable pub line_at : List ℕ → ℕ → TextLine
line_at s at = on_letter (field_at s (record { at = at; ended = false })) (λ letter c. numbers_from (length s) s letter c []) broken

abbrev pub on_line : {A : Type 0} → TextLine → (ℕ → List ℕ → ℕ → A) → A → A
on_line (whole letter ns next) f y = f letter ns next
on_line broken f y = y

-- ---- tests of a line's numbers

-- "a number | 0 | 65,535"
abbrev pub all_at_most : ℕ → List ℕ → Bool
all_at_most m [] = true
all_at_most m (v ∷ l) = leb v m && all_at_most m l

-- "Codes are [..] rising": each above the one before it
abbrev pub rising_from : ℕ → List ℕ → Bool
rising_from u [] = true
rising_from u (v ∷ l) = ltb u v && rising_from v l

abbrev pub rising : List ℕ → Bool
rising [] = true
rising (v ∷ l) = rising_from v l

-- ---- what memory keeps: 65536 for every number above 65535. No such number is in a table, and no earlier line has one.
abbrev pub cap : ℕ → ℕ
cap v = min v 65536

abbrev pub caps : List ℕ → List ℕ
caps [] = []
caps (v ∷ l) = cap v ∷ caps l

abbrev pub capped : TextLine → TextLine
capped (whole letter ns next) = whole letter (caps ns) next
capped broken = broken

-- the numbers of a whole line stand in memory from its beginning on, as many as there is room for
abbrev pub Stores : TextLine → List ℕ → List ℕ → Type 0
Stores (whole letter ns next) before after = after ≡ sets before 0 (caps ns)
Stores broken before after = Unit {0}
