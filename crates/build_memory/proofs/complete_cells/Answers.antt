use Rattle.build_memory.proofs.StateLaws.{few_rules, few_strings, some_strings, rules_hold, strings_hold, uses_hold, states_held}
use Rattle.build_memory.proofs.LineLaws.{settled_of}
use Rattle.build_memory.proofs.complete_cells.Goals as goal

pub entries_meet-requires-clause-rules_bound : goal.entries_meet-requires-clause-rules_bound
entries_meet-requires-clause-rules_bound c = let E = c.requires.some_stated.is.entered in (few_rules E, some_strings E, few_strings E)

pub returns-clause-settled : goal.returns-clause-settled
returns-clause-settled c =
    λ g T.
    let U = uses_hold T _ (c.entries_meet.ensures.decides g _ (strings_hold T) T.entered.goal_is) in
    settled_of T c.requires.numbered (c.find_sets.ensures g (rules_hold T) T.entered.terminal_count)
    (c.find_lookaheads.ensures g (states_held T c.requires.numbered U)) (c.fill_cells.ensures.filled g _ _)
