-- No symbol that was passed begins a group.
use Prim.Native.Nat.{ℕ, ◌<◌}
use mathlib.Core.Path.{◌≡◌}
use Rattle.items.specs.Layout.{start_at}
use Rattle.item_groups.proofs.group_end.Given as goal

abbrev pub invariant-loop-k : goal.invariant-loop-k
invariant-loop-k l = (m : ℕ) → l.from < m → m < l.k → start_at l.items l.i m ≡ 0
