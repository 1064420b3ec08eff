-- The cursor past a field lies past the field's first byte, and in the book: a loop over fields ends.
use Prim.Native.Nat.{ℕ, ◌+◌, ◌<◌, ◌≤◌}
use mathlib.Core.Path.{◌≡◌, subst}
use mathlib.Core.List.{List, [], ◌∷◌}
use mathlib.Core.Bool.{Bool, true, false, cond}
use native.Mathlib.Decide.{dec_lt}
use native.Mathlib.Omega.{arith}
use lib.Dec.{eqb}
use lib.ListN.{length, drop, length-drop}
use Rattle.text.specs.declared.Cursor.{Cursor}
use Rattle.text.specs.declared.Class.{Class}
use Rattle.text.specs.declared.Class.TheVariants as class
use Rattle.text.specs.declared.End.TheVariants.{Past, Missing}
use Rattle.text.specs.declared.Field.{Field}
use Rattle.text.specs.declared.Field.TheVariants as field
use Rattle.text.specs.Field.{class_of, end_of, add_digit, closed, on_digit, digits_from, by_class, field_of, field_at}
use Rattle.text.proofs.Bytes.{past}
use Rattle.text.proofs.NumberLaws.{as_digits}

-- past a, and at most z
abbrev pub Between : ℕ → ℕ → Cursor → Type 0
Between a z d = (a < d.at) × (d.at ≤ z)

abbrev pub Onward : ℕ → ℕ → Field → Type 0
Onward a z (field.Number v d) = Between a z d
Onward a z (field.Mark b d) = Between a z d
Onward a z (field.Letter b d) = Between a z d
Onward a z field.Broken = Unit {0}

module _ (a z : ℕ) where
  closed_onward : (f : Cursor → Field) → ((d : Cursor) → Between a z d → Onward a z (f d)) → (l : List ℕ) (at : ℕ) → a ≤ at → at + length l ≤ z
      → Onward a z (closed f (end_of l at))
  unfolding end_of
  closed_onward f h [] at p q = tt
  closed_onward f h (b ∷ l) at p q = go (eqb b 44) (eqb b 10)
    where
      go : (t u : Bool) → Onward a z (closed f (cond t (Past (record { at = at + 1; ended = false })) (cond u (Past (record { at = at + 1; ended = true })) Missing)))
      go true u = h _ (omega arith, omega arith)
      go false true = h _ (omega arith, omega arith)
      go false false = tt

  by_digit : (f g : Field) (k : Class) → Onward a z f → Onward a z g → Onward a z (on_digit k f g)
  by_digit f g class.Digit p q = p
  by_digit f g class.Letter p q = q
  by_digit f g class.Mark p q = q
  by_digit f g class.Other p q = q

  digits_onward : (l : List ℕ) (at v : ℕ) → a ≤ at → at + length l ≤ z → Onward a z (digits_from l at v)
  unfolding digits_from
  digits_onward [] at v p q = tt
  digits_onward (b ∷ l) at v p q =
      by_digit (digits_from l (at + 1) (add_digit v b)) (closed (field.Number v) (end_of (b ∷ l) at)) (class_of b)
      (digits_onward l (at + 1) (add_digit v b) (omega arith) (omega arith))
      (closed_onward (field.Number v) (λ d h. h) (b ∷ l) at p q)

  class_onward : (k : Class) (b : ℕ) (l : List ℕ) (at : ℕ) → a ≤ at → at + length (b ∷ l) ≤ z → Onward a z (by_class k b l at)
  class_onward class.Digit b l at p q = as_digits (Onward a z) tt at b l (digits_onward (b ∷ l) at 0 p q)
  class_onward class.Letter b l at p q = closed_onward (field.Letter b) (λ d h. h) l (at + 1) (omega arith) (omega arith)
  class_onward class.Mark b l at p q = closed_onward (field.Mark b) (λ d h. h) l (at + 1) (omega arith) (omega arith)
  class_onward class.Other b l at p q = tt

  bytes_onward : (l : List ℕ) (at : ℕ) → a ≤ at → at + length l ≤ z → Onward a z (field_of l at)
  bytes_onward [] at p q = tt
  bytes_onward (b ∷ l) at p q = class_onward (class_of b) b l at p q

-- the field at a cursor
pub onward : (s : List ℕ) (c : Cursor) (f : Field) → field_at s c ≡ f → Onward c.at (length s) f
unfolding field_at
onward s c f e = subst (λ (g : Field). Onward c.at (length s) g) e (go c.ended (dec_lt (length s) c.at))
  where
    go : (b : Bool) → Dec (length s < c.at) → Onward c.at (length s) (cond b field.Broken (field_of (drop c.at s) c.at))
    go true d = tt
    go false (yes h) = rw (past s c.at (omega arith)) tt
    go false (no h) = bytes_onward c.at (length s) (drop c.at s) c.at (omega arith) (simp length-drop (omega arith))
