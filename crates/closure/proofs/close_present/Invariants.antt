-- Passes over the rules: what is set is in the least set, and a pass that adds nothing meets every clause.
use Prim.Native.Nat.{ℕ, ◌≤◌, ◌<◌}
use mathlib.Core.Path.{◌≡◌}
use lib.ListN.{length}
use Rattle.fixpoint.specs.Flags.{On}
use Rattle.fixpoint.specs.Least.{Least}
use Rattle.fixpoint.specs.Pass.{zeros, Pass}
use Rattle.closure.specs.Steps.{expansions}
use Rattle.closure.proofs.StepLaws.{ExpansionMet}
use Rattle.closure.proofs.close_present.Given as goal

abbrev pub invariant-rules : goal.invariant-rules
invariant-rules l =
    Pass 64 (Least (expansions l.items l.rules) (On l.initial.present)) l.initial.present l.present 0 l.added
    (λ fs. (j : ℕ) → 1 ≤ j → j < l.i → ExpansionMet l.items l.rules j fs)

abbrev pub invariant-passes : goal.invariant-passes
invariant-passes l =
    (length l.present ≡ 64)
    × ((y : ℕ) → On l.present y → Least (expansions l.items l.rules) (On l.initial.present) y)
    × ((y : ℕ) → On l.initial.present y → On l.present y)

abbrev pub decreases-passes : goal.decreases-passes
decreases-passes l = zeros l.present
