-- A search for what fails.
use Rattle.std.specs.Prelude.{ℕ, ◌≤◌, ◌<◌, ◌≡◌}
use Rattle.fixpoint.specs.declared.Found.{Found}

-- every number
abbrev pub Any : ℕ → Type 0
Any x = Unit {0}

-- r is one of the numbers of D, from `low` on and below `high`, that are not P; nothing where all are
pub record Misses (D P : ℕ → Type 0) (low high : ℕ) (r : Found) : Type 0 where
  pub found : (x : ℕ) → r ≡ Found.At x → (low ≤ x) × (x < high) × D x × (P x → ⊥)
  pub none : r ≡ Found.Nothing → (x : ℕ) → low ≤ x → x < high → D x → P x
