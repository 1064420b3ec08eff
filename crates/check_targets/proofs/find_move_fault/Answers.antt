-- Every item arrives, and nothing else stands in the next states.
use Rattle.check_targets.proofs.FaultLaws.{lost_line, lost_rule}
use Rattle.check_targets.proofs.find_move_fault.Goals as goal

pub item_of-i-requires-clause-l_lt_lines : goal.item_of-i-requires-clause-l_lt_lines
item_of-i-requires-clause-l_lt_lines c = (c.find_lost_line.ensures.found _ c.in-At.is).1

pub returns-in-At : goal.returns-in-At
returns-in-At c = let h = c.find_lost_line.ensures.found _ c.in-At.is in
    record { is = lost_line c.item_of-i.ensures.1 c.dot_of-k.ensures.1 c.item_of-i.ensures.0 c.dot_of-k.ensures.0 h.1 h.2 h.3 }

pub returns-in-At-find_lost_rule : goal.returns-in-At-find_lost_rule
returns-in-At-find_lost_rule c = let h = c.find_lost_rule.ensures.found _ c.in-At-find_lost_rule.is in
    record { is = lost_rule c.requires.readable.few h.0 h.1 h.2 h.3 }
