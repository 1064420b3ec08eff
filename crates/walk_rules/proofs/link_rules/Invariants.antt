-- The rows of the rules passed are written.
use Rattle.walk_rules.specs.Rows.{RulesLinked}
use Rattle.walk_rules.proofs.link_rules.Given as goal

abbrev pub invariant-loop-i : goal.invariant-loop-i
invariant-loop-i l = RulesLinked l.items l.entries l.uses l.i l.rows
