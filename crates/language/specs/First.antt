-- first(β, σ). Document 01, 'Construction'.
use Rattle.std.specs.Prelude.{ℕ, ◌≡◌, List, [], ◌∷◌}
use Rattle.language.specs.Grammar.{Grammar}
use Rattle.language.specs.Derivation.{Forest, yields, IsForest}

-- the first of a list, or what follows it
abbrev pub next : List ℕ → ℕ → ℕ
next [] d = d
next (a ∷ l) d = a

-- "first(β, σ) holds the terminals, or 0, that can begin a string derived from β followed by a member of σ", for one
-- member d: facts about lookahead sets are stated for one arbitrary code.
pub record First (g : Grammar) (β : List ℕ) (d c : ℕ) : Type 0 where
  pub forest : Forest
  pub derives : IsForest g forest β
  pub begins : next (yields forest) d ≡ c
