use Rattle.moves.specs.Flags.{present_of}
use Rattle.build_cells.proofs.HeldLaws.{in_memory_of}
use Rattle.build_cells.proofs.ask_state.Goals as goal

pub returns-clause-decides : goal.returns-clause-decides
returns-clause-decides c =
    λ g t entries kinds values gotos H e.
    let K = c.close_state.ensures g t (in_memory_of H e) in
    let M = c.flag_moves.ensures.holds_moves g t _ _ _ _ _ _ H (present_of K) in
    let A = c.ask_cells.ensures.decides g t _ _ _ _ _ H e K M in
    (A.0, A.1)
