-- The first j groups stand above whatever stack was below the first `from`.
use mathlib.Core.List.{List}
use mathlib.Core.Path.{◌≡◌}
use Prim.Native.Nat.{ℕ, ◌+◌}
use Rattle.walk_stack.specs.Stack.{tops, groups_over}
use Rattle.walk_stack.proofs.push_more.Given as goal

abbrev pub invariant-loop-j : goal.invariant-loop-j
invariant-loop-j l = (S : List ℕ) → tops l.initial.stack (l.height + l.from) ≡ groups_over l.machine.rules l.rule l.from S
    → tops l.stack (l.height + l.j) ≡ groups_over l.machine.rules l.rule l.j S
