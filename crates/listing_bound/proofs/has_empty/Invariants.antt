-- The rows passed are not empty.
use Prim.Native.Nat.{ℕ, ◌≤◌, ◌<◌}
use mathlib.Core.Path.{◌≡◌}
use Rattle.items.specs.Layout.{length_at}
use Rattle.listing_bound.proofs.has_empty.Given as goal

abbrev pub invariant-loop-i : goal.invariant-loop-i
invariant-loop-i l = (j : ℕ) → j < l.i → 1 ≤ j → length_at l.items j ≡ 0 → ⊥
