use Prim.Native.Nat.{◌*◌, ◌≤◌}
use Rattle.explain_grammar.proofs.explain_conflicts.Given as goal

abbrev pub invariant-loop-q : goal.invariant-loop-q
invariant-loop-q l = l.found ≤ 64 * l.q
