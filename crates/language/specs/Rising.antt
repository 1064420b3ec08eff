-- Lists of numbers "in rising order".
use Rattle.std.specs.Prelude.{ℕ, suc, ◌≤◌, List, [], ◌∷◌}

-- each is larger than those before it, and none is below a
abbrev pub RisingFrom : ℕ → List ℕ → Type 0
RisingFrom a [] = Unit {0}
RisingFrom a (x ∷ l) = (a ≤ x) × RisingFrom (suc x) l
