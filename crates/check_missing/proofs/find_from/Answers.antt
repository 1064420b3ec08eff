-- What p asks, then a search among the lines of q.
use mathlib.Core.Path.{refl}
use Rattle.check_memory.proofs.StateLaws.{memory_of}
use Rattle.check_missing.proofs.MissingLaws.{state_missing}
use Rattle.check_missing.proofs.find_from.Goals as goal

pub returns-clause-missing_is : goal.returns-clause-missing_is
returns-clause-missing_is c = λ g t states G U.
    state_missing g t G.held _ _ G.code_count c.requires.le_p.0 65536 refl
    (c.add_inclusions.ensures.adds_2 g t _ G.held G.code_count (c.close_state.ensures g t (memory_of G)) U)
    _ c.find_asked.ensures
