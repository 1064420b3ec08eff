-- A field by the byte that it begins with.
use Prim.Native.Nat.{ℕ, ◌+◌, ◌-◌, ◌<◌, ◌≤◌}
use mathlib.Core.Path.{◌≡◌, refl, sym, ap, subst}
use mathlib.Core.List.{List, [], ◌∷◌}
use mathlib.Core.Bool.{true, false}
use native.Mathlib.Omega.{arith}
use borrow.Author.Tests.{ne_eqb}
use lib.ListN.{length, get_or, drop}
use Rattle.text.specs.declared.Cursor.{Cursor}
use Rattle.text.specs.declared.Class.{Class}
use Rattle.text.specs.declared.Class.TheVariants as class
use Rattle.text.specs.declared.End.{End}
use Rattle.text.specs.declared.End.TheVariants.{Past, Missing}
use Rattle.text.specs.declared.Field.TheVariants as field
use Rattle.text.specs.Field.{class_of, end_of, add_digit, closed, digits_from, padded, by_class, field_of, field_at}
use Rattle.text.specs.Inner.{single_of}
use Rattle.text.proofs.Bytes.{here, past}
use Rattle.text.proofs.ClassLaws.{class_digit, digit_range}
use Rattle.text.proofs.NumberLaws.{zero_alone}

padded_other : (b : ℕ) (l : List ℕ) → (b ≡ 48 → ⊥) → padded (b ∷ l) ≡ false
padded_other b [] n = refl
padded_other b (x ∷ l) n = simp (ne_eqb b 48 n)

-- a first digit that is not 0
pub first_digit : (b : ℕ) (l : List ℕ) (at : ℕ) → 49 ≤ b → b ≤ 57 → field_of (b ∷ l) at ≡ digits_from l (at + 1) (b - 48)
unfolding digits_from add_digit
first_digit b l at low high = simp (class_digit b (omega arith) high, padded_other b l (λ e. omega arith)) (ap (digits_from l (at + 1)) (omega arith))

-- every other byte stands alone
first_alone : (b : ℕ) (l : List ℕ) (at : ℕ) → (49 ≤ b → b ≤ 57 → ⊥) → field_of (b ∷ l) at ≡ closed (single_of (class_of b) b) (end_of l (at + 1))
first_alone b l at n = go (class_of b) refl
  where
    torn : (e : End) → field.Broken ≡ closed (λ c. field.Broken) e
    torn (Past c) = refl
    torn Missing = refl

    go : (k : Class) → class_of b ≡ k → by_class k b l at ≡ closed (single_of k b) (end_of l (at + 1))
    go class.Digit e =
        let r = digit_range b e in
        let f : 49 ≤ b → ⊥ = λ l. n l r.1 in
        let z : b ≡ 48 = omega (arith, r.0, f) in
        subst (λ (x : ℕ). by_class class.Digit x l at ≡ closed (field.Number 0) (end_of l (at + 1))) (sym z) (zero_alone l at)
    go class.Letter e = refl
    go class.Mark e = refl
    go class.Other e = torn (end_of l (at + 1))

-- ---- the field at a cursor
module _ (s : List ℕ) (c : Cursor) where
  pub line_over : c.ended ≡ true → field_at s c ≡ field.Broken
  unfolding field_at
  line_over e = simp e

  module _ (e : c.ended ≡ false) where
    pub book_over : length s ≤ c.at → field_at s c ≡ field.Broken
    unfolding field_at
    book_over h = simp (e, past s c.at h)

    module _ (h : c.at < length s) where
      pub by_digits : 49 ≤ get_or s c.at 0 → get_or s c.at 0 ≤ 57 → field_at s c ≡ digits_from (drop (c.at + 1) s) (c.at + 1) (get_or s c.at 0 - 48)
      unfolding field_at
      by_digits l m = rw (e, here s c.at h) (first_digit (get_or s c.at 0) (drop (c.at + 1) s) c.at l m)

      pub by_single : (49 ≤ get_or s c.at 0 → get_or s c.at 0 ≤ 57 → ⊥)
          → field_at s c ≡ closed (single_of (class_of (get_or s c.at 0)) (get_or s c.at 0)) (end_of (drop (c.at + 1) s) (c.at + 1))
      unfolding field_at
      by_single n = rw (e, here s c.at h) (first_alone (get_or s c.at 0) (drop (c.at + 1) s) c.at n)
