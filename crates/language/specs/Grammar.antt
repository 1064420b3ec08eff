-- Grammars as data. Document 01, 'Books'.
use Rattle.std.specs.Prelude.{ℕ, zero, suc, ◌+◌, ◌≤◌, Bool, List, [], ◌∷◌, ◌++◌}
use Rattle.std.proofs.Math.Option.{Option, some, none}

-- "U marks a unit rule. [..] The symbols after `^`, parted at cuts, are the rule's groups; there may be none."
-- `before` are the symbols left of `^`, the recognition point.
pub record Rule : Type 0 where
  pub unit : Bool
  pub left : ℕ
  pub before : List ℕ
  pub groups : List (List ℕ)

-- `G,t,n,r,goal` and its rule lines
pub record Grammar : Type 0 where
  pub terminals : ℕ
  pub nonterminals : ℕ
  pub goal : ℕ
  pub rules : List Rule

-- all of a list's lists, one after the other
abbrev pub concat : List (List ℕ) → List ℕ
concat [] = []
concat (γ ∷ γs) = γ ++ concat γs

-- a rule's right side, without marks
abbrev pub right : Rule → List ℕ
right r = r.before ++ concat r.groups

-- the element at a position, counted from 0
abbrev pub at : {A : Type 0} → List A → ℕ → Option A
at [] n = none
at (x ∷ l) zero = some x
at (x ∷ l) (suc n) = at l n

-- "Rules are numbered from 1 in line order."
abbrev pub rule_at : Grammar → ℕ → Option Rule
rule_at g zero = none
rule_at g (suc i) = at g.rules i

-- "1 to t are terminals; 64 to 63+n are nonterminals"
abbrev pub IsTerminal : Grammar → ℕ → Type 0
IsTerminal g a = (1 ≤ a) × (a ≤ g.terminals)

abbrev pub IsNonterminal : Grammar → ℕ → Type 0
IsNonterminal g X = (64 ≤ X) × (X ≤ 63 + g.nonterminals)
