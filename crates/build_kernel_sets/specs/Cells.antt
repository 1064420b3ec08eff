-- The next states in memory.
use Rattle.std.specs.Prelude.{ℕ, zero, suc, ◌+◌, ◌*◌, ◌-◌, ◌≤◌, ◌<◌, ◌≡◌, List, get_or}

-- 1 for a shift, 0 for nothing
abbrev pub shift_kind : ℕ → ℕ
shift_kind zero = 0
shift_kind (suc v) = 1

-- state q goes to v on X, 0 for nowhere: terminals at q * 64 + X, nonterminals at q * 64 + X - 64
pub record Cell (kinds values gotos : List ℕ) (q X v : ℕ) : Type 0 where
  pub kind : X < 64 → get_or kinds (q * 64 + X) 0 ≡ shift_kind v
  pub value : X < 64 → get_or values (q * 64 + X) 0 ≡ v
  pub next : 64 ≤ X → get_or gotos (q * 64 + (X - 64)) 0 ≡ v

-- a next state was stored where none stood, and no other
pub record Stores (kinds₀ values₀ gotos₀ kinds values gotos : List ℕ) (q x v : ℕ) : Type 0 where
  pub here : Cell kinds₀ values₀ gotos₀ q x 0 → Cell kinds values gotos q x v
  pub other : (p X u : ℕ) → X < 128 → (p ≡ q → X ≡ x → ⊥) → Cell kinds₀ values₀ gotos₀ p X u → Cell kinds values gotos p X u

-- no next state at all
pub record Blank (kinds values gotos : List ℕ) : Type 0 where
  pub kinds_blank : (i : ℕ) → get_or kinds i 0 ≡ 0
  pub values_blank : (i : ℕ) → get_or values i 0 ≡ 0
  pub gotos_blank : (i : ℕ) → get_or gotos i 0 ≡ 0
