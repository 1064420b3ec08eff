-- The groups' states, then the four figures.
use mathlib.Core.Path.{ap}
use Prim.Native.Nat.{ℕ, ◌%◌}
use Rattle.walk_rules.proofs.RowLaws.{rule_linked}
use Rattle.walk_rules.proofs.link_rule.Goals as goal

pub returns : goal.returns
returns c =
    rule_linked c.requires.i_le_count.1
    c.count_groups-groups.ensures c.link_groups.ensures
    c.mark_of.ensures.0 (ap (λ (x : ℕ). x % 64) c.left_of.ensures.0)
    c.unit_of.ensures.0
