-- The bytes of each class.
use Prim.Native.Nat.{ℕ, ◌≤◌}
use mathlib.Core.Path.{◌≡◌, refl, sym, subst, ◌∙◌}
use mathlib.Core.Bool.{Bool, true, false, cond, ◌||◌}
use native.Mathlib.Omega.{arith}
use lib.Dec.{eqb}
use Rattle.range.specs.Range.{within}
use Rattle.range.proofs.RangeLaws.{within-true, true-within, false-within}
use Rattle.text.specs.declared.Class.{Class}
use Rattle.text.specs.declared.Class.TheVariants as class
use Rattle.text.specs.Field.{class_of, on_digit}

module _ (b : ℕ) where
  pub class_digit : 48 ≤ b → b ≤ 57 → class_of b ≡ class.Digit
  unfolding class_of
  class_digit l h = simp (true-within 48 b 57 l h)

  pub class_letter : 65 ≤ b → b ≤ 90 → class_of b ≡ class.Letter
  unfolding class_of
  class_letter l h = simp (false-within 48 b 57 (λ x y. omega arith), true-within 65 b 90 l h)

  pub no_digit : (48 ≤ b → b ≤ 57 → ⊥) → {A : Type 0} (x y : A) → on_digit (class_of b) x y ≡ y
  unfolding class_of
  no_digit f x y = rw (false-within 48 b 57 f) (go (within 65 b 90) (eqb b 47 || eqb b 94))
    where
      go : (t u : Bool) → on_digit (cond t class.Letter (cond u class.Mark class.Other)) x y ≡ y
      go true u = refl
      go false true = refl
      go false false = refl

-- the bytes of digits and letters
abbrev InClass : Class → ℕ → Type 0
InClass class.Digit b = (48 ≤ b) × (b ≤ 57)
InClass class.Letter b = (65 ≤ b) × (b ≤ 90)
InClass class.Mark b = Unit {0}
InClass class.Other b = Unit {0}

in_class : (b : ℕ) → InClass (class_of b) b
unfolding class_of
in_class b = go (within 48 b 57) refl (within 65 b 90) refl (eqb b 47 || eqb b 94)
  where
    go : (t : Bool) → within 48 b 57 ≡ t → (u : Bool) → within 65 b 90 ≡ u → (v : Bool)
        → InClass (cond t class.Digit (cond u class.Letter (cond v class.Mark class.Other))) b
    go true p u q v = within-true 48 b 57 p
    go false p true q v = within-true 65 b 90 q
    go false p false q true = tt
    go false p false q false = tt

pub digit_range : (b : ℕ) → class_of b ≡ class.Digit → (48 ≤ b) × (b ≤ 57)
digit_range b e = subst (λ (k : Class). InClass k b) e (in_class b)

pub letter_range : (b : ℕ) → class_of b ≡ class.Letter → (65 ≤ b) × (b ≤ 90)
letter_range b e = subst (λ (k : Class). InClass k b) e (in_class b)

-- the test of a range, where it fails
pub outside : (least b most : ℕ) → within least b most ≡ false → least ≤ b → b ≤ most → ⊥
outside least b most e l h = let z : ◌≡◌ {A = ℕ} 0 1 = cc (sym (true-within least b most l h) ∙ e) in absurd (omega arith)
