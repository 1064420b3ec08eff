-- The symbols passed have been visited.
use lib.ListN.{take}
use Rattle.build_kernel_sets.specs.Leaving.{Leaving}
use Rattle.build_kernel_sets.proofs.leave_state.Given as goal

abbrev pub invariant-loop-x : goal.invariant-loop-x
invariant-loop-x l =
    Leaving (take l.n l.moved) l.initial.sets l.initial.starts l.initial.kinds l.initial.values l.initial.gotos l.q l.states l.lines l.sets l.starts l.kinds l.values l.gotos l.found l.end
    l.x
