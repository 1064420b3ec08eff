-- What is asked of a state's cells, a number for each code, 0 for nothing; and what differs from it.
use Rattle.std.specs.Prelude.{ℕ, ◌+◌, ◌≤◌, ◌<◌, ◌≡◌, ◌⊎◌, List, length, get_or}
use Rattle.fixpoint.specs.Flags.{On}

-- v is asked of code c's cell
pub record Demand (asked : List ℕ) (c v : ℕ) : Type 0 where
  pub is : get_or asked c 0 ≡ v
  pub some : v ≡ 0 → ⊥

-- something is asked of code c's cell that is not v
pub record Differs (asked : List ℕ) (c v : ℕ) : Type 0 where
  pub other : ℕ
  pub there : Demand asked c other
  pub differ : other ≡ v → ⊥

-- v is asked of code c's cell, or two different actions are
abbrev pub Met : List ℕ → List ℕ → ℕ → ℕ → Type 0
Met asked others c v = Demand asked c v ⊎ On others c

-- what was asked still is, and what is new is of D; so are others, which differ from what is asked
pub record Asking (D : ℕ → ℕ → Type 0) (asked₀ others₀ asked others : List ℕ) : Type 0 where
  pub long : length asked ≡ length asked₀
  pub others_long : length others ≡ length others₀
  pub kept : (c v : ℕ) → Demand asked₀ c v → Demand asked c v
  pub only : (c v : ℕ) → Demand asked c v → Demand asked₀ c v ⊎ D c v
  pub others_kept : (c : ℕ) → On others₀ c → On others c
  pub others_only : (c v : ℕ) → Demand others c v → Demand others₀ c v ⊎ (D c v × Differs asked c v)

-- all that D wants is asked
pub record Asks (D : ℕ → ℕ → Type 0) (asked₀ others₀ asked others : List ℕ) : Type 0 where
  pub asking : Asking D asked₀ others₀ asked others
  pub met : (c v : ℕ) → D c v → Met asked others c v

pub record Wants (c₀ v₀ c v : ℕ) : Type 0 where
  pub code : c ≡ c₀
  pub value : v ≡ v₀

-- each code that is flagged in a row, from `low` on
pub record CodeAsks (from : List ℕ) (start low codes demand c v : ℕ) : Type 0 where
  pub above : low ≤ c
  pub below : c < codes
  pub on : On from (start + c)
  pub is : v ≡ demand
