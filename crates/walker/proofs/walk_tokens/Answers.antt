use lib.ListN.{length}
use Rattle.walker.proofs.EndLaws.{end_listing}
use Rattle.walker.proofs.walk_tokens.Goals as goal

pub returns-clause-rules : goal.returns-clause-rules
returns-clause-rules c =
    end_listing c.run-w.new.listing c.clear-2.new.s c.rule_count-n.result (length c.args.listing.now) c.run-w.ensures
    c.rule_count-n.ensures c.run-w.auto.listing c.clear-2.ensures
