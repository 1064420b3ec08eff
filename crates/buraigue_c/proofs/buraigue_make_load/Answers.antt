-- `buraigue_c::buraigue_make_load` meets its contract. Assumes nothing.
use borrow.Author.Rules.{rules}
use Rattle.buraigue_c.proofs.ToldLaws.{load_told}
use Rattle.buraigue_c.proofs.buraigue_make_load.Goals as goal

pub returns : goal.returns
returns c =
    load_told c.make_load-answer.ensures c.as_reply.ensures c.token_count.ensures c.rule_count.ensures c.tell_reply.ensures
