-- Memory as the values of a function: a slice of n figures, of which the one at i is f i.
use Rattle.std.specs.Prelude.{ℕ, zero, suc, List, [], ◌∷◌, Bool, true, false}

unfoldable pub image : ℕ → (ℕ → ℕ) → List ℕ
image zero f = []
image (suc n) f = f zero ∷ image n (λ i. f (suc i))

abbrev pub flag : Bool → ℕ
flag true = 1
flag false = 0
