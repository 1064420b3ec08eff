-- A slice of bytes as the theory's stack of states, and what an announce pushes on it.
use Rattle.std.specs.Prelude.{ℕ, zero, suc, ◌+◌, ◌≡◌, List, [], ◌∷◌, get_or}
use Rattle.language.specs.First.{next}
use Rattle.walk_tables.specs.Memory.{figure_of, goto_of}
use Rattle.walk_stack.specs.declared.Top.{Top}

-- the first h bytes of a slice as the theory's stack, the top first
abbrev pub tops : List ℕ → ℕ → List ℕ
tops slice zero = []
tops slice (suc h) = get_or slice h 0 ∷ tops slice h

-- the state that is kept beside a slice is the one on top there
abbrev pub IsTop : List ℕ → Top → Type 0
IsTop slice t = t.state ≡ next (tops slice t.height) 0

-- stack S under the entry states of rule r's first j groups in the order of the row
abbrev pub groups_over : List ℕ → ℕ → ℕ → List ℕ → List ℕ
groups_over rules r zero S = S
groups_over rules r (suc j) S = figure_of rules r (4 + j) ∷ groups_over rules r j S

-- with the entry states of r's first `from` groups above a stack, those of the others are pushed
abbrev pub PushesFrom : List ℕ → ℕ → ℕ → ℕ → ℕ → List ℕ → List ℕ → Type 0
PushesFrom rules r from groups height slice slice' =
    (S : List ℕ) → tops slice (height + from) ≡ groups_over rules r from S → tops slice' (height + groups) ≡ groups_over rules r groups S

-- stack S under the goto of its top for rule r's left side and the entry states of r's groups
unfoldable pub rule_over : List ℕ → List ℕ → ℕ → ℕ → List ℕ → List ℕ
rule_over gotos rules r groups S = groups_over rules r groups (goto_of gotos (next S 0) (figure_of rules r 1) ∷ S)
