use native.Mathlib.Omega.{arith}
use Rattle.explain_states.proofs.demands.explain_goto.Goals as goal

pub overflow_add-x : goal.overflow_add-x
overflow_add-x c = omega (arith, (c.find_goto.ensures.found _ c.in-At.is).1)

pub overflow_add-state : goal.overflow_add-state
overflow_add-state c = omega (arith, (c.find_goto.ensures.found _ c.in-At.is).1, c.args.state.low)

pub bounds-gotos-state : goal.bounds-gotos-state
bounds-gotos-state c = omega (arith, (c.find_goto.ensures.found _ c.in-At.is).1, c.args.state.low, c.args.state.prepared.table.room.cells_room.gotos_room)
