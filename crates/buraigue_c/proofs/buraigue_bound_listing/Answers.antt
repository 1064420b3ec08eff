-- `buraigue_c::buraigue_bound_listing` meets its contract. Assumes nothing.
use borrow.Author.Rules.{rules}
use Rattle.buraigue_c.proofs.ToldLaws.{bound_told}
use Rattle.buraigue_c.proofs.buraigue_bound_listing.Goals as goal

pub returns : goal.returns
returns c =
    bound_told c.bound_listing-answer.ensures c.as_reply.ensures c.rule_count.ensures c.is_unbounded.ensures c.tell_reply.ensures
