-- `digits::is_below` meets its contract. Assumes nothing.
use Prim.Native.Nat.{◌-◌}
use lib.ListN.{length}
use Rattle.digits.proofs.OrderLaws.{Met}
use Rattle.digits.proofs.is_below.Given as goal

abbrev pub invariant-loop-o : goal.invariant-loop-o
invariant-loop-o l = Met l.s l.a l.b l.i l.j l.o

abbrev pub decreases-loop-o : goal.decreases-loop-o
decreases-loop-o l = length l.s - l.i
