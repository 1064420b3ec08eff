-- Symbols that derive the empty string, and the terminals that begin what a symbol derives.
use Rattle.std.specs.Prelude.{ℕ, ◌≡◌, ◌⊎◌, List, [], ◌∷◌}
use Rattle.std.proofs.Math.Option.{some}
use Rattle.language.specs.Grammar.{Grammar, Rule, rule_at, right}
use Rattle.language.specs.Derivation.{Tree, yield, IsTree}
use Rattle.language.specs.Sentence.{In, Productive}

module _ (g : Grammar) where
  pub record Nullable (X : ℕ) : Type 0 where
    pub tree : Tree
    pub derives : IsTree g tree X
    pub empty : yield tree ≡ []

  pub record Begins (X c : ℕ) : Type 0 where
    pub tree : Tree
    pub derives : IsTree g tree X
    pub remainder : List ℕ
    pub begins : yield tree ≡ c ∷ remainder

  -- every symbol of a right side derives something: so it is where each nonterminal does, and symbols are declared
  abbrev pub RightProductive : Type 0
  RightProductive = (i : ℕ) (r : Rule) → rule_at g i ≡ some r → (a : ℕ) → In a (right r) → Productive g a

-- N of every symbol of a string
abbrev pub AllIn : (ℕ → Type 0) → List ℕ → Type 0
AllIn N [] = Unit {0}
AllIn N (X ∷ β) = N X × AllIn N β

-- F of its first symbol, or of a later one behind symbols of N
abbrev pub Starts : (ℕ → Type 0) → (ℕ → Type 0) → List ℕ → Type 0
Starts N F [] = ⊥
Starts N F (X ∷ β) = F X ⊎ (N X × Starts N F β)
