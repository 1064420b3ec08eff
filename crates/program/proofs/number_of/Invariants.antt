use Rattle.std.proofs.Common.{◌≤◌}
use Rattle.program.proofs.number_of.Given as goal

abbrev pub invariant-loop-b : goal.invariant-loop-b
invariant-loop-b l = l.value ≤ 4294967296
