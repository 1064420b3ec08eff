-- Derivations as plain data. Document 01, 'Walk': "A derivation is a finite tree. [..] Marks play no part."
use Rattle.std.specs.Prelude.{ℕ, ◌≡◌, List, [], ◌∷◌, ◌++◌}
use Rattle.std.proofs.Math.Option.{some}
use Rattle.language.specs.Grammar.{Grammar, Rule, right, rule_at, IsTerminal}

-- a forest is a list of trees, one for each symbol of a string
mutual
  pub data Tree : Type 0 where
    leaf : ℕ → Tree
    node : ℕ → Forest → Tree

  pub data Forest : Type 0 where
    nil : Forest
    cons : Tree → Forest → Forest

-- the terminals of a tree, left to right
abbrev mutual
  pub yield : Tree → List ℕ
  yield (leaf a) = a ∷ []
  yield (node i F) = yields F

  pub yields : Forest → List ℕ
  yields nil = []
  yields (cons T F) = yield T ++ yields F

module _ (g : Grammar) where
  -- "That of a terminal is the terminal; that of a nonterminal is a node with one of its rules, by number, over a
  -- derivation of each symbol of the right side in order."
  abbrev mutual
    pub IsTree : Tree → ℕ → Type 0
    IsTree (leaf a) X = (a ≡ X) × IsTerminal g a
    IsTree (node i F) X = (r : Rule) × (rule_at g i ≡ some r) × (r.left ≡ X) × IsForest F (right r)

    pub IsForest : Forest → List ℕ → Type 0
    IsForest nil [] = Unit {0}
    IsForest nil (X ∷ β) = ⊥
    IsForest (cons T F) [] = ⊥
    IsForest (cons T F) (X ∷ β) = IsTree T X × IsForest F β
