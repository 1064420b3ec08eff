-- The rules below i are prepared.
use mathlib.Core.Path.{◌≡◌}
use lib.ListN.{length}
use Rattle.closure.proofs.PrepareLaws.{Filled}
use Rattle.closure.proofs.prepare_rules.Given as goal

abbrev pub invariant-loop-i : goal.invariant-loop-i
invariant-loop-i l =
    (length l.starts ≡ 8192)
    × (length l.through ≡ 128)
    × Filled l.items l.codes l.nullable l.first l.i l.starts l.through
