-- What the tests of an item that arrives come to.
use Prim.Native.Nat.{ℕ}
use mathlib.Core.Path.{◌≡◌, subst}
use mathlib.Core.List.{List}
use Rattle.moves.specs.Moves.{next_at, OnlyMoved}
use Rattle.check_targets.specs.Targets.{Arrives, TargetOnly}

module _ {items kernels kinds values gotos : List ℕ} {lines q : ℕ} where
  pub arrives_to : {i j k m : ℕ} → i ≡ j → k ≡ m → Arrives items kernels kinds values gotos lines q i k → Arrives items kernels kinds values gotos lines q j m
  arrives_to {i} {j} {k} {m} e f h =
      subst (λ (a : ℕ). Arrives items kernels kinds values gotos lines q a m) e (subst (λ (b : ℕ). Arrives items kernels kinds values gotos lines q i b) f h)

-- ---- a target with nothing but what moved
module _ {items kernels present symbols kinds values gotos : List ℕ} {rules lines q X : ℕ} where
  pub target_moved : (s : ℕ) → s ≡ next_at kinds values gotos q X → OnlyMoved items kernels present rules lines q X s
      → TargetOnly items kernels present symbols kinds values gotos rules lines q X
  target_moved s is-s h = record { only = λ o n. subst (OnlyMoved items kernels present rules lines q X) is-s h }
