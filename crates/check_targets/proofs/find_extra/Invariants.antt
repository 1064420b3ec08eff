-- The symbols passed lead to what moved.
use Prim.Native.Nat.{ℕ, ◌≤◌, ◌<◌}
use Rattle.check_targets.specs.Targets.{TargetOnly}
use Rattle.check_targets.proofs.find_extra.Given as goal

abbrev pub invariant-loop-x : goal.invariant-loop-x
invariant-loop-x l = (j : ℕ) → 1 ≤ j → j < l.x → TargetOnly l.items l.kernels l.present l.symbols l.kinds l.values l.gotos l.totals.rules l.totals.lines l.q j
