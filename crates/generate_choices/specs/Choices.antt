-- The choices of each nonterminal in memory.
use Rattle.std.specs.Prelude.{◌≡◌, ℕ, ◌+◌, ◌<◌, ◌≤◌, List, length, slice_index}
use Rattle.language.specs.Grammar.{Grammar, IsNonterminal}
use Rattle.language.specs.Sentence.{AllProductive}
use Rattle.language.specs.WellFormed.{WellFormed}
use Rattle.generate_loads.specs.Load.{IsSymbol, rules_of, height_of, shortest}

abbrev pub height_at : List ℕ → ℕ → ℕ
height_at choices X = slice_index choices X

-- where the rules of X begin
abbrev pub start_at : List ℕ → ℕ → ℕ
start_at choices X = slice_index choices (128 + X)

abbrev pub count_at : List ℕ → ℕ → ℕ
count_at choices X = slice_index choices (256 + X)

abbrev pub shortest_at : List ℕ → ℕ → ℕ
shortest_at choices X = slice_index choices (384 + X)

-- a rule by its place in the list of all
abbrev pub listed_at : List ℕ → ℕ → ℕ
listed_at choices j = slice_index choices (512 + j)

-- the choices of g, whose nonterminals all have one
pub record HoldsChoices (g : Grammar) (choices : List ℕ) : Type 0 where
  pub formed : WellFormed g
  pub productive : AllProductive g
  pub room : 640 ≤ length choices
  pub height_is : (X : ℕ) → IsSymbol g X → height_at choices X ≡ height_of g X
  pub start_in : (X : ℕ) → IsNonterminal g X → start_at choices X + length (rules_of g X) ≤ 128
  pub count_is : (X : ℕ) → IsNonterminal g X → count_at choices X ≡ length (rules_of g X)
  pub rule_is : (X k : ℕ) → IsNonterminal g X → k < length (rules_of g X) → listed_at choices (start_at choices X + k) ≡ slice_index (rules_of g X) k
  pub shortest_is : (X : ℕ) → IsNonterminal g X → shortest_at choices X ≡ shortest g X

-- X is a nonterminal of a grammar whose choices are held
abbrev pub Choosable : List ℕ → ℕ → Type 0
Choosable choices X = (g : Grammar) × HoldsChoices g choices × IsNonterminal g X
