-- From no flag on, those of the lines, then those of the rules.
use Rattle.moves.proofs.HeldLaws.{flags_hold}
use Rattle.moves.proofs.flag_moves.Goals as goal

pub returns-clause-holds_moves : goal.returns-clause-holds_moves
returns-clause-holds_moves c = λ g t entries lookaheads kinds values gotos strings H P.
    flags_hold g t H P c.requires.q_bound.1 c.flag_lines.ensures.flagged c.flag_lines.ensures.by_index c.flag_rules.ensures.flagged c.flag_rules.ensures.by_index
