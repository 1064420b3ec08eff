-- The rules passed arrive.
use Prim.Native.Nat.{ℕ, ◌≤◌, ◌<◌}
use Rattle.moves.specs.Moves.{Present}
use Rattle.check_targets.specs.Targets.{Arrives}
use Rattle.check_targets.proofs.find_lost_rule.Given as goal

abbrev pub invariant-loop-i : goal.invariant-loop-i
invariant-loop-i l = (j : ℕ) → 1 ≤ j → j < l.i → Present l.items l.present j → Arrives l.items l.kernels l.kinds l.values l.gotos l.totals.lines l.q j 0
