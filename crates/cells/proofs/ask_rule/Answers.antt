use Rattle.cells.proofs.AskLaws.{rule_row}
use Rattle.cells.proofs.ask_rule.Goals as goal

pub returns : goal.returns
returns c = rule_row c.left_of-left.ensures.0 c.ask_item.ensures
