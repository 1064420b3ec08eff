-- Flags of the states whose lookaheads are too few ("narrow").
use Rattle.std.specs.Prelude.{ℕ, ◌≡◌, ◌⊎◌, List, length}
use Rattle.fixpoint.specs.Flags.{On, Off}

-- flags were set only for states that do not meet M
pub record Narrowing (M : ℕ → Type 0) (fs₀ fs : List ℕ) : Type 0 where
  pub long : length fs ≡ length fs₀
  pub kept : (q : ℕ) → On fs₀ q → On fs q
  pub only : (q : ℕ) → On fs q → On fs₀ q ⊎ (M q → ⊥)

-- and the others meet it
pub record Narrows (M : ℕ → Type 0) (fs₀ fs : List ℕ) : Type 0 where
  pub narrowing : Narrowing M fs₀ fs
  pub rest : (q : ℕ) → Off fs q → M q
