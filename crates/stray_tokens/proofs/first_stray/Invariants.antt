-- The tokens passed are terminals.
use mathlib.Core.Path.{◌≡◌}
use lib.ListN.{drop}
use Rattle.stray_tokens.specs.Stray.{stray_from}
use Rattle.stray_tokens.proofs.first_stray.Given as goal

abbrev pub invariant-loop-i : goal.invariant-loop-i
invariant-loop-i l = stray_from l.terminals 0 l.tokens ≡ stray_from l.terminals l.i (drop l.i l.tokens)
