-- Tests along a string of symbols.
use Rattle.std.specs.Prelude.{ℕ, Bool, true, false, ◌||◌, ◌&&◌, List, [], ◌∷◌}

abbrev pub all : (ℕ → Bool) → List ℕ → Bool
all p [] = true
all p (X ∷ α) = p X && all p α

abbrev pub any : (ℕ → Bool) → List ℕ → Bool
any p [] = false
any p (X ∷ α) = p X || any p α
