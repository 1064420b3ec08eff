-- The symbols passed are loaded, and all numbers are below 128.
use Prim.Native.Nat.{ℕ, ◌+◌, ◌<◌}
use mathlib.Core.Path.{◌≡◌}
use lib.ListN.{get_or}
use Rattle.items.specs.Layout.{symbol_at}
use Rattle.build_entries.proofs.load_part.Given as goal

abbrev pub invariant-loop-k : goal.invariant-loop-k
invariant-loop-k l = ((j : ℕ) → get_or l.numbers j 0 < 128) × ((j : ℕ) → j < l.k → get_or l.numbers (j + 1) 0 ≡ symbol_at l.items l.i (l.from + j))
