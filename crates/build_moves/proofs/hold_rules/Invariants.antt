-- The flags are those of the rules passed.
use Rattle.analysis.specs.Adds.{Adds}
use Rattle.build_moves.specs.Moved.{RuleStart}
use Rattle.build_moves.proofs.hold_rules.Given as goal

abbrev pub invariant-loop-i : goal.invariant-loop-i
invariant-loop-i l = Adds (RuleStart l.items l.present l.i) l.initial.held l.held
