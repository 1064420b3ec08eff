-- The groups of the rules passed have joined the goal.
use Prim.Native.Nat.{◌≤◌, ◌-◌}
use lib.ListN.{length}
use Rattle.language.specs.Grammar.{Grammar}
use Rattle.build_entries.specs.Memory.{RulesOnly, EntryRoom}
use Rattle.build_entries.proofs.ListLaws.{Listing}
use Rattle.build_entries.proofs.list_entries.Given as goal

abbrev pub invariant-loop-i : goal.invariant-loop-i
invariant-loop-i l = record {
  ready : EntryRoom l.items l.rules l.n;
  few : l.n ≤ 128;
  listing : (g : Grammar) → RulesOnly g l.fn.items l.rules l.fn.goal → Listing g (length l.fn.items) l.items l.rules (l.i - 1) l.n;
}
