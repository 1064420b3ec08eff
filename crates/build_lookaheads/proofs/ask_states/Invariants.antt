use Rattle.build_lookaheads.specs.Passes.{StatesAdd}
use Rattle.build_lookaheads.proofs.ask_states.Given as goal

abbrev pub invariant-loop-p : goal.invariant-loop-p
invariant-loop-p l =
    StatesAdd l.items l.kernels l.lookaheads l.kinds l.values l.gotos l.entries l.uses l.nullable l.first l.totals.rules l.totals.lines l.totals.codes l.changed l.totals.states l.p l.initial.asked
    l.asked
