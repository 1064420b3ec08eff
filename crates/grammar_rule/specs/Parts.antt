-- What stands on a rule line after its left side: symbols, the mark `^` and cuts `/`.
use Rattle.std.specs.Prelude.{ℕ, zero, suc, List, [], ◌∷◌, ◌++◌, cond, eqb, length}
use Rattle.text.specs.declared.Cursor.{Cursor}
use Rattle.text.specs.declared.Field.{Field}
use Rattle.text.specs.declared.Field.TheVariants as field
use Rattle.text.specs.Field.{field_at}

pub data Part : Type 0 where
  symbol : ℕ → Part
  caret : Part
  cut : Part

-- `^` is 94; the other mark is `/`
abbrev pub mark_of : ℕ → Part
mark_of b = cond (eqb b 94) caret cut

-- the rest of a line: its parts and the position past its LF, or it breaks its form
pub data Rest : Type 0 where
  parts : List Part → ℕ → Rest
  broken : Rest

abbrev pub after : List Part → Rest → Rest
after ps (parts qs next) = parts (ps ++ qs) next
after ps broken = broken

-- a letter has no place on a right side
abbrev pub on_part : {A : Type 0} → Field → (Part → Cursor → A) → A → A
on_part (field.Number v d) f y = f (symbol v) d
on_part (field.Mark b d) f y = f (mark_of b) d
on_part (field.Letter b d) f y = y
on_part field.Broken f y = y

-- the fields from c on to the line's end, of which there are fewer than k
unfoldable pub parts_from : ℕ → List ℕ → Cursor → Rest
parts_from zero s c = broken
parts_from (suc k) s c =
    cond c.ended (parts [] c.at) (on_part (field_at s c) (λ p d. after (p ∷ []) (parts_from k s d)) broken)

-- a line has no more fields than the book has bytes, so no line is broken for want of a budget: `budget_suffices`
-- (proofs/BudgetLaws.antt)
abbrev pub parts_at : List ℕ → Cursor → Rest
parts_at s c = parts_from (suc (length s)) s c

abbrev pub symbols_of : List Part → List ℕ
symbols_of [] = []
symbols_of (symbol X ∷ ps) = X ∷ symbols_of ps
symbols_of (caret ∷ ps) = symbols_of ps
symbols_of (cut ∷ ps) = symbols_of ps
