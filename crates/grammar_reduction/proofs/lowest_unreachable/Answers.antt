-- The flags after the closure mark the reachable symbols, whatever grammar memory holds.
use Rattle.grammar_reduction.proofs.TransferLaws.{marks_one, found_unreachable}
use Rattle.grammar_reduction.proofs.lowest_unreachable.Goals as goal

pub returns : goal.returns
returns c g h e k =
    found_unreachable g c.requires.shaped h e k (marks_one 128 c.args.goal c.requires.goal_bound.0)
    c.close_reaching.ensures c.lowest_unset.result c.lowest_unset.ensures
