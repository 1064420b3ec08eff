-- As many as were copied are those of the tokens.
use mathlib.Core.Path.{◌≡◌}
use lib.ListN.{length, take}
use Rattle.expected.proofs.copy_front.Given as goal

abbrev pub invariant-loop-i : goal.invariant-loop-i
invariant-loop-i l = (length l.out ≡ length l.initial.out) × (take l.i l.out ≡ take l.i l.tokens)
