-- The numbers stored are those picked from what was passed.
use Rattle.build_moves.proofs.PickLaws.{Picking}
use Rattle.build_moves.proofs.pick_moves.Given as goal

abbrev pub invariant-loop-c : goal.invariant-loop-c
invariant-loop-c l = Picking l.c-items l.initial.sets l.sets l.at l.x l.c-index l.len
