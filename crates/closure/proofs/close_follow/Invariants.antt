-- Passes over the rules and the codes: what is set is in the least set, and a pass that adds nothing meets every clause.
use Prim.Native.Nat.{ℕ, ◌≤◌, ◌<◌}
use mathlib.Core.Path.{◌≡◌}
use lib.ListN.{length}
use Rattle.fixpoint.specs.Flags.{On}
use Rattle.fixpoint.specs.Least.{Least}
use Rattle.fixpoint.specs.Pass.{zeros, Pass}
use Rattle.closure.specs.Steps.{followings, Covered}
use Rattle.closure.proofs.StepLaws.{FollowingMet, CodeMet}
use Rattle.closure.proofs.close_follow.Given as goal

abbrev pub invariant-codes : goal.invariant-codes
invariant-codes l =
    Pass 4096 (Least (followings l.items l.rules l.codes l.starts l.through) (On l.initial.follow)) l.initial.follow l.follow l.initial.added l.added
    (λ fs.
    ((j : ℕ) → 1 ≤ j → j < l.i → FollowingMet l.items l.rules l.codes l.starts l.through j fs)
    × ((k : ℕ) → k < l.c → CodeMet l.items l.rules l.codes l.starts l.through l.i k fs))

abbrev pub invariant-rules : goal.invariant-rules
invariant-rules l =
    Pass 4096 (Least (followings l.items l.rules l.codes l.starts l.through) (On l.initial.follow)) l.initial.follow l.follow 0 l.added
    (λ fs. (j : ℕ) → 1 ≤ j → j < l.i → FollowingMet l.items l.rules l.codes l.starts l.through j fs)

abbrev pub invariant-passes : goal.invariant-passes
invariant-passes l =
    (length l.follow ≡ 4096)
    × ((y : ℕ) → On l.follow y → Least (followings l.items l.rules l.codes l.starts l.through) (On l.initial.follow) y)
    × ((y : ℕ) → On l.initial.follow y → On l.follow y)
    × Covered l.items l.rules l.codes l.present l.follow

abbrev pub decreases-passes : goal.decreases-passes
decreases-passes l = zeros l.follow
