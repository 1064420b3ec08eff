-- Tokens that are no terminals.
use Rattle.std.specs.Prelude.{ℕ, suc, ◌≤◌, ◌<◌, cond, List, [], ◌∷◌, length, get_or}
use Rattle.fixpoint.specs.declared.Found.{Found}
use Rattle.range.specs.Range.{within}

-- "a token not 1 to t", the lowest; `at` is the place of the first of the tokens
unfoldable pub stray_from : ℕ → ℕ → List ℕ → Found
stray_from t at [] = Found.Nothing
stray_from t at (a ∷ w) = cond (within 1 a t) (stray_from t (suc at) w) (Found.At at)

-- every token is from `least` to `most`
abbrev pub Spans : List ℕ → ℕ → ℕ → Type 0
Spans w least most = (i : ℕ) → i < length w → (least ≤ get_or w i 0) × (get_or w i 0 ≤ most)
