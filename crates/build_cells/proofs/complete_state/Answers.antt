use Rattle.build_cells.proofs.HeldLaws.{held}
use Rattle.build_cells.proofs.CellLaws.{agree_decided, state_filled}
use Rattle.build_cells.proofs.complete_state.Goals as goal

pub returns-then-agree-clause-decides : goal.returns-then-agree-clause-decides
returns-then-agree-clause-decides c =
    λ g entries all H.
    let A = c.ask_state-agree.ensures.decides g _ _ _ _ _ (held H) H.code_count in
    (agree_decided H A.0, λ t. state_filled H (A.1 t) c.fill_state.ensures)

pub returns-else-agree-clause-decides : goal.returns-else-agree-clause-decides
returns-else-agree-clause-decides c =
    λ g entries all H.
    let A = c.ask_state-agree.ensures.decides g _ _ _ _ _ (held H) H.code_count in
    (agree_decided H A.0, λ t. absurd cc)
