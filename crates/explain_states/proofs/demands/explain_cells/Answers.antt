use native.Mathlib.Omega.{arith}
use Rattle.explain_states.proofs.demands.explain_cells.Goals as goal

pub offset_bounds-cells-c : goal.offset_bounds-cells-c
offset_bounds-cells-c c =
    omega (arith, (c.find_cell-cell.ensures.found _ c.in-At.is).1, c.args.state.prepared.first_room.few_codes)

pub bounds-cells-c : goal.bounds-cells-c
bounds-cells-c c =
    omega (arith, (c.find_cell-cell.ensures.found _ c.in-At.is).1, c.args.state.prepared.first_room.few_codes)
