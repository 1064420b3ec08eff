-- Cells that are filled with what is asked of them, as `cells` has it: 512 + i for announcing rule i, 768 + n for popping n + 1 states. What is less is
-- a move, which stands in its cell already, or nothing.
use Rattle.std.specs.Prelude.{ℕ, ◌+◌, ◌*◌, ◌≤◌, ◌<◌, ◌≡◌, ◌⊎◌, List, length, get_or}

-- a cell of which d is asked, before and after
pub record Stored (d kind₀ value₀ kind value : ℕ) : Type 0 where
  pub kept : d < 512 → (kind ≡ kind₀) × (value ≡ value₀)
  pub filled : 512 ≤ d → d < 1024 → (kind * 256 + value ≡ d) × (value < 256)

abbrev pub StoredAt : ℕ → ℕ → List ℕ → List ℕ → List ℕ → List ℕ → Type 0
StoredAt d x kinds₀ values₀ kinds values = Stored d (get_or kinds₀ x 0) (get_or values₀ x 0) (get_or kinds x 0) (get_or values x 0)

-- cell x is as it was
pub record KeptAt (kinds₀ values₀ kinds values : List ℕ) (x : ℕ) : Type 0 where
  pub kind : get_or kinds x 0 ≡ get_or kinds₀ x 0
  pub value : get_or values x 0 ≡ get_or values₀ x 0

-- cell x was filled, and no other
pub record FillsCell (d x : ℕ) (kinds₀ values₀ kinds values : List ℕ) : Type 0 where
  pub kinds_long : length kinds ≡ length kinds₀
  pub values_long : length values ≡ length values₀
  pub here : StoredAt d x kinds₀ values₀ kinds values
  pub other : (y : ℕ) → (y ≡ x → ⊥) → KeptAt kinds₀ values₀ kinds values y

-- the cells of q for the codes below n were filled, and no others
pub record FillsState (asked : List ℕ) (q n : ℕ) (kinds₀ values₀ kinds values : List ℕ) : Type 0 where
  pub kinds_long : length kinds ≡ length kinds₀
  pub values_long : length values ≡ length values₀
  pub here : (c : ℕ) → c < n → StoredAt (get_or asked c 0) (q * 64 + c) kinds₀ values₀ kinds values
  pub other : (y : ℕ) → (y < q * 64) ⊎ (q * 64 + n ≤ y) → KeptAt kinds₀ values₀ kinds values y
