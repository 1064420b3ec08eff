use mathlib.Core.Path.{refl, ◌∙◌}
use Rattle.check_memory.proofs.PassLaws.{holds_of, terminals_are, pass_verdict}
use Rattle.check_memory.proofs.check_entered.Goals as goal

pub check_states-found-requires-clause-states_bound : goal.check_states-found-requires-clause-states_bound
check_states-found-requires-clause-states_bound c = (c.requires.le_codes.2, refl)

pub returns : goal.returns
returns c =
    λ g t G U E. c.answer.ensures ∙ pass_verdict g t G c.requires.table_room.some_strings E (c.find_sets.ensures g (holds_of G.held) (terminals_are G.code_count)) _ _ _ _
    (c.check_states-found.ensures.found g t G U) c.ask_goal.ensures 256 refl c.mark_narrow.ensures c.lowest_set-low.ensures
