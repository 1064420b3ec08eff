-- Each pass keeps that what is set follows by the rules; a pass that adds nothing has met every rule.
use Prim.Native.Nat.{ℕ, ◌≤◌, ◌<◌}
use mathlib.Core.Path.{◌≡◌}
use lib.ListN.{length}
use Rattle.fixpoint.specs.Flags.{On}
use Rattle.fixpoint.specs.Pass.{zeros, Pass}
use Rattle.fixpoint.specs.Rows.{Row}
use Rattle.analysis.specs.InMemory.{Has, FirstFrom, RuleMet}
use Rattle.analysis.proofs.close_first.Given as goal

abbrev pub invariant-rules : goal.invariant-rules
invariant-rules l =
    Pass 8192 (Row (FirstFrom l.m l.rules (On l.nullable) (Has l.initial.first))) l.initial.first l.first 0 l.added
    (λ fs. (j : ℕ) → 1 ≤ j → j < l.i → RuleMet l.m (On l.nullable) j fs)

abbrev pub invariant-passes : goal.invariant-passes
invariant-passes l =
    (length l.first ≡ 8192) × ((y : ℕ) → On l.first y → Row (FirstFrom l.m l.rules (On l.nullable) (Has l.initial.first)) y) × ((y : ℕ) → On l.initial.first y → On l.first y)

abbrev pub decreases-passes : goal.decreases-passes
decreases-passes l = zeros l.first
