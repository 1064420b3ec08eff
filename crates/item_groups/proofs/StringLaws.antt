-- Strings compared, also where one of them is a part of an item.
use Prim.Native.Nat.{ℕ, zero, suc, ◌+◌, ◌<◌}
use mathlib.Core.Path.{◌≡◌, refl, sym, ap, ◌∙◌}
use mathlib.Core.Logic.{◌≢◌}
use mathlib.Core.List.{List, [], ◌∷◌}
use mathlib.Core.Bool.{Bool, true, false, ◌&&◌}
use native.Mathlib.Nat.{not-suc-le-zero, le_of_suc-le-suc}
use native.Mathlib.Omega.{arith}
use borrow.Author.Tests.{eq-eqb, ne_eqb}
use lib.Dec.{eqb}
use lib.ListN.{length, get_or}
use Rattle.leftcorner.specs.Table.{same_string}
use Rattle.items.specs.Layout.{symbol_at}
use Rattle.item_groups.specs.Groups.{PartIs}

and_false : (b : Bool) → b && false ≡ false
and_false true = refl
and_false false = refl

pub same_long : (γ δ : List ℕ) → (length γ ≡ length δ → ⊥) → same_string γ δ ≡ false
same_long [] [] h = absurd (h refl)
same_long [] (y ∷ δ) h = refl
same_long (x ∷ γ) [] h = refl
same_long (x ∷ γ) (y ∷ δ) h = ap (λ (b : Bool). eqb x y && b) (same_long γ δ (λ e. h (ap suc e))) ∙ and_false (eqb x y)

pub same_no : (γ δ : List ℕ) (k : ℕ) → k < length γ → (get_or γ k 0 ≡ get_or δ k 0 → ⊥) → same_string γ δ ≡ false
same_no [] δ k h f = absurd (not-suc-le-zero h)
same_no (x ∷ γ) [] k h f = refl
same_no (x ∷ γ) (y ∷ δ) zero h f = simp (ne_eqb x y f)
same_no (x ∷ γ) (y ∷ δ) (suc k) h f = ap (λ (b : Bool). eqb x y && b) (same_no γ δ k (le_of_suc-le-suc h) f) ∙ and_false (eqb x y)

pub same_yes : (γ δ : List ℕ) → length γ ≡ length δ → ((k : ℕ) → k < length γ → get_or γ k 0 ≡ get_or δ k 0) → same_string γ δ ≡ true
same_yes [] [] e h = refl
same_yes [] (y ∷ δ) e h = absurd (omega (arith, e))
same_yes (x ∷ γ) [] e h = absurd (omega (arith, e))
same_yes (x ∷ γ) (y ∷ δ) e h = simp (eq-eqb x y (h zero (omega arith)), same_yes γ δ (omega (arith, e)) (λ k l. h (suc k) (omega arith)))

-- ---- n symbols of an item against a string
module _ {items : List ℕ} {i from n : ℕ} {γ : List ℕ} (part : PartIs items i from n γ) (string : List ℕ) where
  pub part_long : n ≢ length string → false ≡ same_string γ string
  part_long f = sym (same_long γ string (λ e. f (sym part.width ∙ e)))

  module _ (long : n ≡ length string) where
    pub part_other : (k : ℕ) → k < n → symbol_at items i (from + k) ≢ get_or string k 0 → false ≡ same_string γ string
    part_other k l f = sym (same_no γ string k (omega (arith, l, part.width)) (λ e. f (part.symbols k l ∙ e)))

    pub part_same : ((k : ℕ) → k < n → symbol_at items i (from + k) ≡ get_or string k 0) → true ≡ same_string γ string
    part_same f =
        sym (same_yes γ string (part.width ∙ long) (λ k l. let b : k < n = omega (arith, l, part.width) in sym (part.symbols k b) ∙ f k b))
