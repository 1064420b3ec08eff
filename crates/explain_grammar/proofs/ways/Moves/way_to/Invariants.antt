use Prim.Native.Nat.{◌+◌, ◌≤◌, ◌<◌}
use Rattle.explain_grammar.proofs.ways.Moves.way_to.Given as goal

abbrev pub invariant-loop-s : goal.invariant-loop-s
invariant-loop-s l = (1 ≤ l.s) × (l.s < 256) × (l.first < 256) × (255 + l.s ≤ l.q + l.first)

abbrev pub decreases-loop-s : goal.decreases-loop-s
decreases-loop-s l = l.s
