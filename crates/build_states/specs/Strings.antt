-- The entries of a grammar. Document 01, 'Construction': "Entries: the goal alone, then every other distinct group once."
use Rattle.std.specs.Prelude.{ℕ, suc, Bool, true, false, cond, List, [], ◌∷◌, ◌++◌}
use Rattle.language.specs.Grammar.{Grammar, Rule}
use Rattle.leftcorner.specs.Table.{EntryLine, E, same_string}

abbrev pub among : List ℕ → List (List ℕ) → Bool
among γ [] = false
among γ (δ ∷ l) = cond (same_string δ γ) true (among γ l)

-- a string joins the others where it is new
unfoldable pub add_string : List (List ℕ) → List ℕ → List (List ℕ)
add_string l γ = cond (among γ l) l (l ++ γ ∷ [])

unfoldable pub add_groups : List (List ℕ) → List (List ℕ) → List (List ℕ)
add_groups l [] = l
add_groups l (γ ∷ γs) = add_groups (add_string l γ) γs

-- "the goal then groups in rule order, left to right"
unfoldable pub add_rules : List (List ℕ) → List Rule → List (List ℕ)
add_rules l [] = l
add_rules l (r ∷ rs) = add_rules (add_groups l r.groups) rs

unfoldable pub entry_strings : Grammar → List (List ℕ)
entry_strings g = add_rules ((g.goal ∷ []) ∷ []) g.rules

-- "States: entries first": entry k's state is k
abbrev pub entry_lines : ℕ → List (List ℕ) → List EntryLine
entry_lines k [] = []
entry_lines k (γ ∷ l) = E k γ ∷ entry_lines (suc k) l
