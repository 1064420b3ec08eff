use borrow.Author.Rules.{rules}
use Rattle.walk_rules.proofs.RowLaws.{rules_start, rules_more, rules_all}
use Rattle.walk_rules.proofs.LinkLaws.{linked}
use Rattle.walk_rules.proofs.link_rules.Goals as goal

pub loop-i-init : goal.loop-i-init
loop-i-init c = rules_start c.requires.rules_bound.3

pub loop-i-preserved : goal.loop-i-preserved
loop-i-preserved c = rules_more c.loop-i.invariant c.link_rule.ensures

pub returns-clause-linked : goal.returns-clause-linked
returns-clause-linked c =
    λ g t start S H M. linked g t S H (c.note_uses.ensures.holds_uses g t S M) M (rules_all (search rules) c.loop-i.invariant) start
