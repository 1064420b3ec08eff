-- No letter that was passed shares its code.
use Prim.Native.Nat.{ℕ, ◌<◌}
use Rattle.letters.specs.Shared.{Shared}
use Rattle.letters.proofs.find_shared.Given as goal

abbrev pub invariant-loop-i : goal.invariant-loop-i
invariant-loop-i l = (k : ℕ) → k < l.i → Shared l.codes k → ⊥
