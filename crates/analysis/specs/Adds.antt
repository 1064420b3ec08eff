-- What a call adds to the flags that it is lent.
use Rattle.std.specs.Prelude.{ℕ, ◌+◌, ◌<◌, ◌≡◌, Bool, true, ◌⊎◌, List, length}
use Rattle.fixpoint.specs.Flags.{On}
use Rattle.analysis.specs.FirstBy.{FirstBy, BeginsAt}

-- the flags of P are set, the others stay
pub record Adds (P : ℕ → Type 0) (fs₀ fs : List ℕ) : Type 0 where
  pub long : length fs ≡ length fs₀
  pub only : (y : ℕ) → On fs y → On fs₀ y ⊎ P y
  pub kept : (y : ℕ) → On fs₀ y → On fs y
  pub every : (y : ℕ) → P y → On fs y

-- y is the place, in a row from `at` on, of a code that is flagged in another row
pub record InRow (from : List ℕ) (start codes at y : ℕ) : Type 0 where
  pub code : ℕ
  pub low : code < codes
  pub on : On from (start + code)
  pub is : y ≡ at + code

-- some code is flagged in a row
pub record AnyIn (from : List ℕ) (start codes : ℕ) : Type 0 where
  pub code : ℕ
  pub low : code < codes
  pub on : On from (start + code)

-- The codes that can begin β are set in a row from `at` on, and `empty` tells whether all of β derives the empty string: so first(β, {d}) is what
-- the row has, and d too where β can be empty.
pub record RestFirst (codes : ℕ) (nul fst β : List ℕ) (at : ℕ) (fs₀ fs : List ℕ) (empty : Bool) : Type 0 where
  pub long : length fs ≡ length fs₀
  pub only : (y : ℕ) → On fs y → On fs₀ y ⊎ BeginsAt codes nul fst β at y
  pub kept : (y : ℕ) → On fs₀ y → On fs y
  pub every : (d c : ℕ) → FirstBy codes nul fst β d c → On fs (at + c) ⊎ ((empty ≡ true) × (c ≡ d))
  pub through : empty ≡ true → (d : ℕ) → FirstBy codes nul fst β d d
