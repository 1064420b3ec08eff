-- Where something can follow: what begins the rest, and the lookaheads where the rest can be empty.
use Rattle.closure.proofs.KernelLaws.{all_follows}
use Rattle.closure.proofs.add_item.Goals as goal

pub returns-then-rest_first-clause-adds_2 : goal.returns-then-rest_first-clause-adds_2
returns-then-rest_first-clause-adds_2 c =
    all_follows _ _ _ _ _ _ _ _ (c.stands_before.ensures.yes c.if-not-stands_before.false) c.symbol_of-x.ensures.0 c.if-x-lt-FIRST_NONTERMINAL.false
    (c.any_code.ensures.yes c.if-any_code.true)
    c.rest_first.ensures c.if-rest_first.true
    c.add_codes.ensures
