-- The numbers of entries.
use Prim.Native.Nat.{ℕ, zero, suc, ◌+◌, ◌≤◌, ◌<◌}
use mathlib.Core.Path.{◌≡◌}
use mathlib.Core.List.{List}
use mathlib.Core.Option.{some}
use native.Mathlib.Omega.{arith}
use lib.ListN.{length}
use Rattle.language.proofs.GrammarLaws.{not_there, at_below, at_range}
use Rattle.leftcorner.specs.Table.{EntryLine, E, Table, entry_at}

module _ (t : Table) {strings : ℕ} (count : length t.entries ≡ strings) where
  pub entry_at_lem : (k : ℕ) → 1 ≤ k → k < strings + 1 → (x : EntryLine) × (entry_at t k ≡ some x)
  entry_at_lem zero a b = absurd (omega arith)
  entry_at_lem (suc k) a b = at_below t.entries k (omega arith)

  pub entry_range : (k : ℕ) {s : ℕ} {γ : List ℕ} → entry_at t k ≡ some (E s γ) → (1 ≤ k) × (k < strings + 1)
  entry_range zero e = not_there e
  entry_range (suc k) e = (omega arith, omega (arith, at_range t.entries k e))
