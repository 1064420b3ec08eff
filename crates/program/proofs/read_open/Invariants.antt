use Rattle.std.proofs.Common.{◌≤◌, ◌-◌, length}
use Rattle.program.proofs.read_open.Given as goal

abbrev pub invariant-loop-size : goal.invariant-loop-size
invariant-loop-size l = l.size ≤ length l.buf

abbrev pub decreases-loop-size : goal.decreases-loop-size
decreases-loop-size l = length l.buf - l.size
