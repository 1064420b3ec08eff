-- The rules passed are flagged, and only what moves.
use Prim.Native.Nat.{ℕ, ◌≤◌, ◌<◌}
use Rattle.fixpoint.specs.Flags.{On}
use Rattle.moves.specs.Moves.{symbol_after, Present, Flagged}
use Rattle.moves.proofs.flag_rules.Given as goal

abbrev pub invariant-loop-i : goal.invariant-loop-i
invariant-loop-i l = Flagged l.items l.kernels l.present l.rules l.lines l.q l.initial.moves l.moves × ((j : ℕ) → 1 ≤ j → j < l.i → Present l.items l.present j → On l.moves (symbol_after l.items j 0))
