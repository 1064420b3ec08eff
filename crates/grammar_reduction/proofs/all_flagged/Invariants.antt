-- The symbols passed are flagged.
use Prim.Native.Nat.{ℕ, ◌<◌}
use Rattle.items.specs.Layout.{symbol_at}
use Rattle.fixpoint.specs.Flags.{On}
use Rattle.grammar_reduction.proofs.all_flagged.Given as goal

abbrev pub invariant-loop-k : goal.invariant-loop-k
invariant-loop-k l = (j : ℕ) → j < l.k → On l.flags (symbol_at l.m l.i j)
