-- The flags are those of the numbers passed.
use lib.ListN.{take}
use Rattle.analysis.specs.Adds.{Adds}
use Rattle.build_moves.specs.Moved.{OfNumber, StandsBefore, SameNumber}
use Rattle.build_moves.proofs.flag_kernel.Given as goal

abbrev pub invariant-loop-x : goal.invariant-loop-x
invariant-loop-x l =
    Adds (OfNumber (StandsBefore l.items) (take l.x-index l.kernel)) l.initial.present l.present
    × Adds (OfNumber SameNumber (take l.x-index l.kernel)) l.initial.held l.held
