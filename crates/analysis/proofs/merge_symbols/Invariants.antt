-- The symbols passed are nullable, and their rows are included in the left side's.
use Prim.Native.Nat.{ℕ, ◌<◌}
use Rattle.items.specs.Layout.{left_at, symbol_at}
use Rattle.fixpoint.specs.Flags.{On}
use Rattle.fixpoint.specs.Pass.{Pass}
use Rattle.fixpoint.specs.Rows.{Row}
use Rattle.analysis.specs.InMemory.{Has, FirstFrom, Includes}
use Rattle.analysis.proofs.merge_symbols.Given as goal

abbrev pub invariant-loop-k : goal.invariant-loop-k
invariant-loop-k l =
    ((j : ℕ) → j < l.k → On l.nullable (symbol_at l.m l.i j))
    × Pass 8192 (Row (FirstFrom l.m l.rules (On l.nullable) (Has l.initial.first))) l.initial.first l.first 0 l.added
    (λ fs. (j : ℕ) → j < l.k → Includes (symbol_at l.m l.i j) (left_at l.m l.i) fs)
