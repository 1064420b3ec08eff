-- The symbols passed are the same.
use Prim.Native.Nat.{ℕ, ◌+◌, ◌<◌}
use mathlib.Core.Path.{◌≡◌}
use Rattle.items.specs.Layout.{symbol_at}
use Rattle.check_entries.proofs.same_part.Given as goal

abbrev pub invariant-loop-j : goal.invariant-loop-j
invariant-loop-j l = (k : ℕ) → k < l.j → symbol_at l.items l.i (l.from + k) ≡ symbol_at l.items l.e k
