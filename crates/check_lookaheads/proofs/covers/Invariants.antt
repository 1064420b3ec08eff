use Rattle.check_lookaheads.specs.Memory.{Covers}
use Rattle.check_lookaheads.proofs.covers.Given as goal

abbrev pub invariant-loop-c : goal.invariant-loop-c
invariant-loop-c l = Covers l.included l.lookaheads l.l l.c
