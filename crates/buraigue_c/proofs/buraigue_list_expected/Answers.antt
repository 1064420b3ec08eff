-- `buraigue_c::buraigue_list_expected` meets its contract. Assumes nothing.
use borrow.Author.Rules.{rules}
use Rattle.buraigue_c.proofs.ToldLaws.{expected_told}
use Rattle.buraigue_c.proofs.buraigue_list_expected.Goals as goal

pub returns : goal.returns
returns c =
    let e = c.list_expected-answer.ensures in
    record { expected_told = expected_told e.replied e.coded c.as_reply.ensures c.code_count.ensures c.tell_reply.ensures; stack_after = (e.cleared, e.unlisted) }
