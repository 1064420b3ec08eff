-- The entries passed have their item.
use Prim.Native.Nat.{ℕ, ◌≤◌, ◌<◌}
use Rattle.check_items.specs.Items.{EntryMeets}
use Rattle.check_items.proofs.find_entry_at.Given as goal

abbrev pub invariant-loop-k : goal.invariant-loop-k
invariant-loop-k l = (j : ℕ) → 1 ≤ j → j < l.k → EntryMeets l.entries l.kernels l.rules l.lines l.q j
