-- No group of the rules that were passed is the string.
use Prim.Native.Nat.{◌+◌, ◌*◌, ◌≤◌}
use Rattle.language.specs.Grammar.{Grammar}
use Rattle.language.specs.WellFormed.{WellFormed}
use Rattle.items.specs.Layout.{Holds}
use Rattle.item_groups.proofs.UseLaws.{Passed}
use Rattle.item_groups.proofs.first_use.Given as goal

abbrev pub invariant-loop-i : goal.invariant-loop-i
invariant-loop-i l = record {
  few : l.next + 14 ≤ l.i * 15;
  passed : (g : Grammar) → WellFormed g → Holds l.items l.rules g → Passed g l.string l.i l.next;
}
