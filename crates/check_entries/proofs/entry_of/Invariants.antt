-- No entry that was passed has the string.
use Prim.Native.Nat.{ℕ, ◌+◌, ◌≤◌, ◌<◌}
use Rattle.check_entries.specs.Parts.{SamePart}
use Rattle.check_entries.proofs.entry_of.Given as goal

abbrev pub invariant-loop-k : goal.invariant-loop-k
invariant-loop-k l = (m : ℕ) → 1 ≤ m → m < l.k → SamePart l.items l.i l.from l.n (l.rules + m) → ⊥
