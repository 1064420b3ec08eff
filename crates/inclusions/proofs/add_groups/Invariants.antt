use Rattle.inclusions.proofs.AskLaws.{GroupsTo}
use Prim.Native.Nat.{◌-◌}
use Rattle.inclusions.proofs.add_groups.Given as goal

abbrev pub invariant-loop-a : goal.invariant-loop-a
invariant-loop-a l =
    GroupsTo l.items l.kernels l.entries l.uses l.nullable l.first l.from l.totals.rules l.totals.lines l.totals.codes l.i l.start l.initial.asked l.asked l.a l.j

abbrev pub decreases-loop-a : goal.decreases-loop-a
decreases-loop-a l = l.n - l.a
