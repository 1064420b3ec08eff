-- Each pass keeps that what is flagged is in the least set; a pass that adds nothing has met every rule.
use Prim.Native.Nat.{ℕ, ◌≤◌, ◌<◌}
use mathlib.Core.Path.{◌≡◌}
use lib.ListN.{length}
use Rattle.items.specs.Layout.{left_at}
use Rattle.fixpoint.specs.Flags.{On}
use Rattle.fixpoint.specs.Least.{Least}
use Rattle.fixpoint.specs.Pass.{zeros, Pass}
use Rattle.grammar_reduction.specs.InMemory.{productions_in, AllOn}
use Rattle.grammar_reduction.proofs.close_productions.Given as goal

abbrev pub invariant-rules : goal.invariant-rules
invariant-rules l =
    Pass 128 (Least (productions_in l.m l.rules) (On l.initial.flags)) l.initial.flags l.flags l.initial.added l.added
    (λ fs. (j : ℕ) → 1 ≤ j → j < l.i → AllOn l.m j fs → On fs (left_at l.m j))

abbrev pub invariant-passes : goal.invariant-passes
invariant-passes l =
    (length l.flags ≡ 128) × ((y : ℕ) → On l.flags y → Least (productions_in l.m l.rules) (On l.initial.flags) y) × ((y : ℕ) → On l.initial.flags y → On l.flags y)

abbrev pub decreases-passes : goal.decreases-passes
decreases-passes l = zeros l.flags
