use Rattle.build_cells.specs.Fill.{FillsState}
use Rattle.build_cells.proofs.fill_state.Given as goal

abbrev pub invariant-loop-c : goal.invariant-loop-c
invariant-loop-c l = FillsState l.asked l.q l.c l.initial.kinds l.initial.values l.kinds l.values
