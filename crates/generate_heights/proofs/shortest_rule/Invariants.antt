-- The first rule of x with lower symbols is the first of those that are left, and it is the shortest.
use mathlib.Core.Path.{◌≡◌}
use Rattle.generate_loads.specs.Load.{first}
use Rattle.generate_heights.specs.Heights.{lower_in}
use Rattle.generate_heights.specs.Rows.{rows_of}
use Rattle.generate_heights.proofs.RowLaws.{rest}
use Rattle.generate_heights.proofs.shortest_rule.Given as goal

abbrev pub invariant-loop-rule : goal.invariant-loop-rule
invariant-loop-rule l =
    first (lower_in l.items l.heights l.high) (rows_of l.items l.x 1 l.rules) ≡ first (lower_in l.items l.heights l.high) (rest l.items l.x l.rules l.rule)
