-- The groups passed are noted and flagged.
use Prim.Native.Nat.{ℕ, ◌+◌, ◌*◌, ◌≤◌, ◌<◌, ◌-◌}
use mathlib.Core.Option.{some}
use mathlib.Core.Path.{◌≡◌}
use lib.ListN.{length, get_or}
use Rattle.language.specs.Grammar.{Grammar, Rule, rule_at}
use Rattle.leftcorner.specs.Table.{Table}
use Rattle.items.specs.Layout.{length_at}
use Rattle.check_entries.proofs.FillLaws.{Filling}
use Rattle.check_entries.specs.Uses.{HoldsStrings}
use Rattle.check_entries.proofs.fill_rule.Given as goal

abbrev pub invariant-loop-from : goal.invariant-loop-from
invariant-loop-from l =
    (l.j ≤ l.from)
    × (length l.uses ≡ 2048)
    × (length l.wanted ≡ 128)
    × (l.length ≡ length_at l.items l.i)
    × ((g : Grammar) (t : Table) (r : Rule)
    → HoldsStrings g t l.items l.rules l.strings
    → rule_at g l.i ≡ some r
    → ((n : ℕ) → n < 16 → get_or l.initial.uses (l.i * 16 + n) 0 ≡ 0)
    → Filling g t l.i r l.initial.uses l.uses l.initial.wanted l.wanted l.from l.j)

abbrev pub decreases-loop-from : goal.decreases-loop-from
decreases-loop-from l = l.length - l.from
