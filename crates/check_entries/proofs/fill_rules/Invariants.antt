-- The rules passed are noted and flagged.
use Prim.Native.Nat.{ℕ}
use mathlib.Core.Path.{◌≡◌}
use lib.ListN.{get_or}
use Rattle.language.specs.Grammar.{Grammar}
use Rattle.leftcorner.specs.Table.{Table}
use Rattle.check_entries.specs.Uses.{HoldsStrings, Filled}
use Rattle.check_entries.proofs.fill_rules.Given as goal

abbrev pub invariant-loop-i : goal.invariant-loop-i
invariant-loop-i l = (g : Grammar) (t : Table)
    → HoldsStrings g t l.items l.rules l.strings
    → ((x : ℕ) → get_or l.initial.uses x 0 ≡ 0)
    → Filled g t l.i l.uses l.initial.wanted l.wanted
