-- The states of the groups passed stand in the row.
use Rattle.walk_rules.specs.Rows.{GroupsLinked}
use Rattle.walk_rules.proofs.link_groups.Given as goal

abbrev pub invariant-loop-j : goal.invariant-loop-j
invariant-loop-j l = GroupsLinked l.entries l.uses l.i l.groups l.j l.initial.rows l.rows
