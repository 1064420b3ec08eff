-- The number that the field reader hands over is the exact one, with 65536 for every number above 65535, and has no leading zero.
use Prim.Native.Nat.{ℕ, ◌+◌, ◌-◌, ◌*◌, ◌≤◌, min}
use mathlib.Core.Path.{◌≡◌, refl, sym, subst}
use mathlib.Core.List.{List, [], ◌∷◌}
use mathlib.Core.Bool.{Bool, true, false, cond}
use native.Mathlib.Omega.{arith}
use borrow.Author.Tests.{eqb-true, eqb-false}
use lib.Dec.{eqb}
use lib.ListN.{drop}
use Rattle.text.specs.declared.Cursor.{Cursor}
use Rattle.text.specs.declared.Class.{Class}
use Rattle.text.specs.declared.Class.TheVariants as class
use Rattle.text.specs.declared.Field.{Field}
use Rattle.text.specs.declared.Field.TheVariants as field
use Rattle.text.specs.Field.{class_of, end_of, add_digit, closed, on_digit, digits_from, by_class, field_of, field_at}
use Rattle.text.proofs.ClassLaws.{digit_range}
use Rattle.text.proofs.NumberLaws.{as_digits, zero_field, Any, OfNumber, of_any, of_closed}
use Rattle.digits.specs.Exact.{exact_from, exact_at}
use Rattle.digits.specs.Compare.{digit_of, digit_at, Leads}

-- ---- the number
abbrev Is : ℕ → ℕ → Cursor → Type 0
Is n v d = v ≡ min n 65536

digits_are : (l : List ℕ) (at v w : ℕ) → w ≡ min v 65536 → OfNumber (Is (exact_from v l)) (digits_from l at w)
unfolding exact_from digits_from add_digit
digits_are [] at v w q = tt
digits_are (b ∷ l) at v w q = go (class_of b) (digits_are l (at + 1) (v * 10 + (b - 48)) (add_digit w b) (omega arith))
  where
    more : ℕ
    more = exact_from (v * 10 + (b - 48)) l

    over : OfNumber (Is v) (closed (field.Number w) (end_of (b ∷ l) at))
    over = of_closed (Is v) Any (field.Number w) (end_of (b ∷ l) at) (λ d e. q)

    go : (k : Class) → OfNumber (Is more) (digits_from l (at + 1) (add_digit w b))
        → OfNumber (Is (on_digit k more v)) (on_digit k (digits_from l (at + 1) (add_digit w b)) (closed (field.Number w) (end_of (b ∷ l) at)))
    go class.Digit h = h
    go class.Letter h = over
    go class.Mark h = over
    go class.Other h = over

field_is : (l : List ℕ) (at : ℕ) → OfNumber (Is (exact_from 0 l)) (field_of l at)
field_is [] at = tt
field_is (b ∷ l) at = go (class_of b)
  where
    go : (k : Class) → OfNumber (Is (exact_from 0 (b ∷ l))) (by_class k b l at)
    go class.Digit = as_digits (OfNumber (Is (exact_from 0 (b ∷ l)))) tt at b l (digits_are (b ∷ l) at 0 0 refl)
    go class.Letter = of_closed (Is (exact_from 0 (b ∷ l))) Any (field.Letter b) (end_of l (at + 1)) (λ d e. tt)
    go class.Mark = of_closed (Is (exact_from 0 (b ∷ l))) Any (field.Mark b) (end_of l (at + 1)) (λ d e. tt)
    go class.Other = tt

-- ---- its first digit
abbrev First : List ℕ → ℕ → Cursor → Type 0
First l v d = 1 ≤ v → 1 ≤ digit_of l

field_first : (l : List ℕ) (at : ℕ) → OfNumber (First l) (field_of l at)
field_first [] at = tt
field_first (b ∷ l) at = by (eqb b 48) refl
  where
    go : (k : Class) → class_of b ≡ k → (b ≡ 48 → ⊥) → OfNumber (First (b ∷ l)) (by_class k b l at)
    go class.Digit e n =
        let r = digit_range b e in
        as_digits (OfNumber (First (b ∷ l))) tt at b l (of_any (First (b ∷ l)) (λ v d h. simp e (omega (arith, r.0, n))) (digits_from (b ∷ l) at 0))
    go class.Letter e n = of_closed (First (b ∷ l)) Any (field.Letter b) (end_of l (at + 1)) (λ d q. tt)
    go class.Mark e n = of_closed (First (b ∷ l)) Any (field.Mark b) (end_of l (at + 1)) (λ d q. tt)
    go class.Other e n = tt

    by : (t : Bool) → eqb b 48 ≡ t → OfNumber (First (b ∷ l)) (field_of (b ∷ l) at)
    by true e =
        subst (λ (x : ℕ). OfNumber (First (x ∷ l)) (field_of (x ∷ l) at)) (sym (eqb-true b 48 e))
        (zero_field (OfNumber (First (48 ∷ l))) tt at l (λ d q h. absurd (omega arith)))
    by false e = go (class_of b) refl (eqb-false b 48 e)

-- ---- the field at a cursor
at_cursor : (P : Field → Type 0) → P field.Broken → (s : List ℕ) (c : Cursor) → P (field_of (drop c.at s) c.at) → P (field_at s c)
unfolding field_at
at_cursor P torn s c h = go c.ended
  where
    go : (b : Bool) → P (cond b field.Broken (field_of (drop c.at s) c.at))
    go true = torn
    go false = h

module _ (s : List ℕ) (c : Cursor) {v : ℕ} {d : Cursor} (e : field_at s c ≡ field.Number v d) where
  pub field_exact : v ≡ min (exact_at s c.at) 65536
  unfolding exact_at
  field_exact = subst (OfNumber (Is (exact_from 0 (drop c.at s)))) e (at_cursor (OfNumber (Is (exact_from 0 (drop c.at s)))) tt s c (field_is (drop c.at s) c.at))

  pub field_leads : Leads s c.at
  unfolding digit_at
  field_leads h =
      subst (OfNumber (First (drop c.at s))) e (at_cursor (OfNumber (First (drop c.at s))) tt s c (field_first (drop c.at s) c.at))
      (omega (arith, field_exact, h))
