-- What a search answers.
use Prim.Native.Nat.{ℕ, ◌≤◌, ◌<◌}
use native.Mathlib.Omega.{arith}
use mathlib.Core.Path.{◌≡◌, sym, subst}
use Rattle.fixpoint.specs.declared.Found.{Found}
use Rattle.fixpoint.specs.Misses.{Misses}

pub at_same : {x y : ℕ} → Found.At x ≡ Found.At y → x ≡ y
at_same e = cc

pub not_at : {A : Type 0} {x : ℕ} → Found.At x ≡ Found.Nothing → A
not_at e = let z : ◌≡◌ {A = ℕ} 0 1 = cc in absurd (omega (arith, z))

pub not_nothing : {A : Type 0} {x : ℕ} → Found.Nothing ≡ Found.At x → A
not_nothing e = not_at (sym e)

module _ {D P : ℕ → Type 0} {low high : ℕ} where
  pub misses_at : {x : ℕ} → low ≤ x → x < high → D x → (P x → ⊥) → Misses D P low high (Found.At x)
  misses_at {x} a b d f = record { found = λ y e. subst (λ (z : ℕ). (low ≤ z) × (z < high) × D z × (P z → ⊥)) (at_same e) (a, b, d, f); none = λ e. not_at e }

  pub misses_none : ((x : ℕ) → low ≤ x → x < high → D x → P x) → Misses D P low high Found.Nothing
  misses_none h = record { found = λ x e. not_nothing e; none = λ e. h }
