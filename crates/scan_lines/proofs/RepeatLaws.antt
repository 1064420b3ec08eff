-- What the test of two texts tells.
use Prim.Native.Nat.{ℕ}
use mathlib.Core.Path.{◌≡◌, refl, sym, ◌∙◌}
use mathlib.Core.List.{List, [], ◌∷◌}
use mathlib.Core.Bool.{Bool, true, false, ◌&&◌}
use native.Mathlib.Omega.{arith}
use borrow.Author.Tests.{eqb-true, eq-eqb}
use lib.Dec.{eqb}
use Rattle.scan_lines.specs.Tokens.{same_bytes}

pub same_equal : (a b : List ℕ) → same_bytes a b ≡ true → a ≡ b
unfolding same_bytes
same_equal [] [] e = refl
same_equal [] (y ∷ b) e = let z : ◌≡◌ {A = ℕ} 0 1 = cc in absurd (omega arith)
same_equal (x ∷ a) [] e = let z : ◌≡◌ {A = ℕ} 0 1 = cc in absurd (omega arith)
same_equal (x ∷ a) (y ∷ b) e = go (eqb x y) refl e (λ q. same_equal a b q)
  where
    go : (t : Bool) → eqb x y ≡ t → t && same_bytes a b ≡ true → (same_bytes a b ≡ true → a ≡ b) → x ∷ a ≡ y ∷ b
    go true p q f = let g = eqb-true x y p in let h = f q in cc
    go false p q f = let z : ◌≡◌ {A = ℕ} 0 1 = cc in absurd (omega arith)

same_self : (a : List ℕ) → same_bytes a a ≡ true
unfolding same_bytes
same_self [] = refl
same_self (x ∷ a) = simp (eq-eqb x x refl, same_self a)

pub equal_same : (a b : List ℕ) → a ≡ b → same_bytes a b ≡ true
equal_same a b e = rw (sym e) (same_self a)

-- a test that tells equal lists apart from others is `same_bytes`
pub same_told : (t : Bool) (a b : List ℕ) → (t ≡ true → a ≡ b) → (a ≡ b → t ≡ true) → t ≡ same_bytes a b
same_told true a b f g = sym (equal_same a b (f refl))
same_told false a b f g = go (same_bytes a b) refl
  where
    go : (u : Bool) → same_bytes a b ≡ u → false ≡ same_bytes a b
    go true q = g (same_equal a b q) ∙ sym q
    go false q = sym q
