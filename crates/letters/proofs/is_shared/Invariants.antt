-- The letters that were passed have other codes.
use Prim.Native.Nat.{ℕ, ◌<◌}
use Rattle.letters.specs.Shared.{Anothers}
use Rattle.letters.proofs.is_shared.Given as goal

abbrev pub invariant-loop-j : goal.invariant-loop-j
invariant-loop-j l = (k : ℕ) → k < l.j → Anothers l.codes l.i k → ⊥
