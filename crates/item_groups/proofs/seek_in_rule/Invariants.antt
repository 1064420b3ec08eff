-- No group that was passed is the string.
use Prim.Native.Nat.{◌+◌, ◌-◌, ◌≤◌}
use Rattle.language.specs.Grammar.{Grammar, Rule}
use Rattle.language.specs.WellFormed.{RuleFormed}
use Rattle.items.specs.Layout.{RuleIn}
use Rattle.item_groups.proofs.UseLaws.{Seeking}
use Rattle.item_groups.proofs.seek_in_rule.Given as goal

abbrev pub invariant-loop-from : goal.invariant-loop-from
invariant-loop-from l = record {
  few : l.k ≤ l.first + l.from;
  fits : l.k ≤ l.first + 15;
  seeking : (g : Grammar) (r : Rule) → RuleFormed g r → RuleIn l.items l.i r → Seeking r l.first l.string l.from l.k;
}

abbrev pub decreases-loop-from : goal.decreases-loop-from
decreases-loop-from l = l.length - l.from
