-- The nonterminals passed have their choices.
use Rattle.std.proofs.Common.{◌≤◌}
use Rattle.generate_choices.specs.Stored.{rows_below}
use Rattle.generate_choices.proofs.StoredLaws.{AllStored}
use Rattle.generate_choices.proofs.list_choices.Given as goal

abbrev pub invariant-loop-x : goal.invariant-loop-x
invariant-loop-x l = (l.at ≤ rows_below l.items l.x 1 l.rules) × AllStored l.items l.rules l.initial.choices l.choices l.x l.at
