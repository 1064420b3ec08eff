-- What a derivation lists, and its unit count. Document 01, 'Walk'.
use Rattle.std.specs.Prelude.{ℕ, ◌+◌, Bool, true, false, List, [], ◌∷◌, ◌++◌, length, take, drop}
use Rattle.std.proofs.Math.Option.{Option, some, none}
use Rattle.language.specs.Grammar.{Grammar, Rule, rule_at, concat}
use Rattle.language.specs.Derivation.{Tree, Forest, leaf, node, nil, cons}

-- a node's listing from those of its subtrees: left of the recognition point, the rule itself, right of it
abbrev pub around : Option Rule → ℕ → List (List ℕ) → List ℕ
around none i ls = []
around (some r) i ls = concat (take (length r.before) ls) ++ i ∷ concat (drop (length r.before) ls)

-- 1 for a unit rule
abbrev pub unit_of : Bool → ℕ
unit_of true = 1
unit_of false = 0

abbrev pub is_unit : Option Rule → ℕ
is_unit none = 0
is_unit (some r) = unit_of r.unit

module _ (g : Grammar) where
  -- "The listing of a derivation: for each node, the subtrees left of `^`, the rule itself, the subtrees right of it; a
  -- terminal lists nothing."
  abbrev mutual
    pub listing : Tree → List ℕ
    listing (leaf a) = []
    listing (node i F) = around (rule_at g i) i (listings F)

    pub listings : Forest → List (List ℕ)
    listings nil = []
    listings (cons T F) = listing T ∷ listings F

  -- "Its unit count is the number of nodes whose rule is a U rule."
  abbrev mutual
    pub units : Tree → ℕ
    units (leaf a) = 0
    units (node i F) = is_unit (rule_at g i) + units_all F

    pub units_all : Forest → ℕ
    units_all nil = 0
    units_all (cons T F) = units T + units_all F

  -- the unit rules among listed rules
  abbrev pub units_in : List ℕ → ℕ
  units_in [] = 0
  units_in (i ∷ l) = is_unit (rule_at g i) + units_in l
