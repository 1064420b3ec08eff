-- Each symbol that was passed is the string's.
use Prim.Native.Nat.{ℕ, ◌+◌, ◌<◌}
use mathlib.Core.Path.{◌≡◌}
use lib.ListN.{get_or}
use Rattle.items.specs.Layout.{symbol_at}
use Rattle.item_groups.proofs.is_part.Given as goal

abbrev pub invariant-loop-k : goal.invariant-loop-k
invariant-loop-k l = (j : ℕ) → j < l.k → symbol_at l.items l.i (l.from + j) ≡ get_or l.string j 0
