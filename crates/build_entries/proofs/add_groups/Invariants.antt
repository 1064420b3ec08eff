-- The groups passed have joined the strings.
use Prim.Native.Nat.{ℕ, ◌≤◌, ◌-◌}
use mathlib.Core.Path.{◌≡◌}
use mathlib.Core.List.{List}
use mathlib.Core.Option.{some}
use Rattle.language.specs.Grammar.{Grammar, Rule, rule_at}
use Rattle.items.specs.Layout.{length_at}
use Rattle.build_entries.specs.Memory.{Stored, EntryRoom}
use Rattle.build_entries.proofs.GroupLaws.{Joining}
use Rattle.build_entries.proofs.add_groups.Given as goal

abbrev pub invariant-loop-from : goal.invariant-loop-from
invariant-loop-from at = record {
  ready : EntryRoom at.items at.rules at.n;
  few : at.n ≤ 128;
  end : at.length ≡ length_at at.items at.i;
  joining : (g : Grammar) (l : List (List ℕ)) (size : ℕ) (r : Rule)
      → Stored g l size at.initial.items at.rules at.strings
      → rule_at g at.i ≡ some r
      → Joining g r l size at.items at.rules at.from at.n;
}

abbrev pub decreases-loop-from : goal.decreases-loop-from
decreases-loop-from l = l.length - l.from
