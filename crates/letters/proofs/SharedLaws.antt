-- A code that is not shared.
use Prim.Native.Nat.{ℕ, ◌<◌}
use mathlib.Core.Path.{◌≡◌}
use mathlib.Core.Logic.{◌⊎◌, inl, inr}
use mathlib.Core.List.{List}
use lib.ListN.{get_or}
use Rattle.letters.specs.Shared.{Anothers, Shared}

pub alone : {l : List ℕ} {i : ℕ} → (get_or l i 0 ≡ 4 → ⊥) → ((k : ℕ) → k < 26 → Anothers l i k → ⊥) → Shared l i → ⊥
alone {l} {i} f g s = go s.shared
  where
    go : ((j : ℕ) × (j < 26) × Anothers l i j) ⊎ (get_or l i 0 ≡ 4) → ⊥
    go (inl a) = g a.0 a.1 a.2
    go (inr e) = f e
