-- Each pass keeps that what is flagged is in the least set; a pass that adds nothing has met every occurrence.
use Prim.Native.Nat.{ℕ, ◌≤◌, ◌<◌}
use mathlib.Core.Path.{◌≡◌}
use mathlib.Core.List.{List}
use lib.ListN.{length}
use Rattle.items.specs.Layout.{left_at, length_at, symbol_at}
use Rattle.fixpoint.specs.Flags.{On}
use Rattle.fixpoint.specs.Least.{Least}
use Rattle.fixpoint.specs.Pass.{zeros, Pass}
use Rattle.grammar_reduction.specs.InMemory.{reaching_in}
use Rattle.grammar_reduction.proofs.close_reaching.Given as goal

-- rule j's occurrences are met
abbrev pub Through : List ℕ → ℕ → List ℕ → Type 0
Through m j fs = On fs (left_at m j) → (k : ℕ) → k < length_at m j → On fs (symbol_at m j k)

abbrev pub invariant-symbols : goal.invariant-symbols
invariant-symbols l =
    Pass 128 (Least (reaching_in l.m l.rules) (On l.initial.flags)) l.initial.flags l.flags l.initial.reached l.reached
    (λ fs. ((j : ℕ) → 1 ≤ j → j < l.i → Through l.m j fs) × ((j : ℕ) → j < l.k → On fs (symbol_at l.m l.i j)))

abbrev pub invariant-rules : goal.invariant-rules
invariant-rules l =
    Pass 128 (Least (reaching_in l.m l.rules) (On l.initial.flags)) l.initial.flags l.flags l.initial.reached l.reached
    (λ fs. (j : ℕ) → 1 ≤ j → j < l.i → Through l.m j fs)

abbrev pub invariant-passes : goal.invariant-passes
invariant-passes l =
    (length l.flags ≡ 128) × ((y : ℕ) → On l.flags y → Least (reaching_in l.m l.rules) (On l.initial.flags) y) × ((y : ℕ) → On l.initial.flags y → On l.flags y)

abbrev pub decreases-passes : goal.decreases-passes
decreases-passes l = zeros l.flags
