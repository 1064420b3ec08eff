-- A string without symbols, or of more than 15, is no group; the others are in memory as they are.
use mathlib.Core.Path.{sym, ap, ◌∙◌}
use native.Mathlib.Omega.{arith}
use lib.ListN.{drop, length-drop}
use Rattle.table_order.specs.Order.{first_use}
use Rattle.table_entries.proofs.StringLaws.{numbers_part}
use Rattle.table_entries.proofs.OrderLaws.{no_group}
use Rattle.table_entries.proofs.use_of.Goals as goal
use Rattle.table_entries.proofs.use_of.Goals.{then-count-lt2-via-then-count-lt2, then-count-lt2-via-else-count-lt2+then-count-gt16}

pub returns-then-count-lt2 : goal.returns-then-count-lt2
returns-then-count-lt2 c = λ g ns h e.
    sym (no_group h.formed (drop 1 ns) (λ a b. elim c.then-count-lt2.branch [
      | then-count-lt2-via-then-count-lt2 w ↦ omega (arith, a, length-drop 1 ns, e.count_is)
      | then-count-lt2-via-else-count-lt2+then-count-gt16 w ↦ omega (arith, b, length-drop 1 ns, e.count_is)
    ]))

pub returns : goal.returns
returns c =
    λ g ns h e.
    c.first_use.ensures g h.formed h.holds
    ∙ ap (first_use g.rules) (numbers_part e (omega (arith, c.requires.rules_le.2)))
