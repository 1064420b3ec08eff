use Rattle.item_first.proofs.FirstLaws.{firsts_all}
use Rattle.item_first.proofs.item_first.Goals as goal

pub returns-then-rest_first : goal.returns-then-rest_first
returns-then-rest_first c =
    firsts_all (c.any_code.ensures.yes c.if-any_code.true) c.rest_first.ensures c.if-rest_first.true c.add_codes.ensures
