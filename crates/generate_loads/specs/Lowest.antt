-- What "the first rule of least derivation height" says, of derivations themselves.
use Rattle.std.specs.Prelude.{ℕ, suc, ◌≤◌, ◌<◌, max}
use Rattle.language.specs.Grammar.{Grammar}
use Rattle.language.specs.Derivation.{Tree, Forest, leaf, node, nil, cons, IsTree}

-- nodes on the longest way down, "terminals adding none"
abbrev mutual
  pub height : Tree → ℕ
  height (leaf a) = 0
  height (node i F) = suc (heights F)

  pub heights : Forest → ℕ
  heights nil = 0
  heights (cons T F) = max (height T) (heights F)

-- a derivation by rule i is as low as any of X, and by a rule before it each is higher
pub record FirstLowest (g : Grammar) (X i : ℕ) : Type 0 where
  pub forest : Forest
  pub derives : IsTree g (node i forest) X
  pub least : (T : Tree) → IsTree g T X → height (node i forest) ≤ height T
  pub first : (j : ℕ) (F : Forest) → j < i → IsTree g (node j F) X → height (node i forest) < height (node j F)
