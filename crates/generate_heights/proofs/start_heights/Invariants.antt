-- Each symbol passed has its first height.
use Rattle.generate_heights.specs.Heights.{Started}
use Rattle.generate_heights.proofs.start_heights.Given as goal

abbrev pub invariant-loop-x : goal.invariant-loop-x
invariant-loop-x l = Started l.terminals l.x l.heights
