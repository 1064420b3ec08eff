-- What the cells of a state hold, as the number of what would be asked.
use Rattle.std.specs.Prelude.{ℕ, ◌+◌, ◌*◌, cond, List, eqb, get_or}
use Rattle.fixpoint.specs.Flags.{On}

-- a next state plays no part: any with the right kernel and lookaheads will do
unfoldable pub demand_at : List ℕ → List ℕ → ℕ → ℕ → ℕ
demand_at kinds values q c =
    cond (eqb (get_or kinds (q * 64 + c) 0) 0) 0
    (cond (eqb (get_or kinds (q * 64 + c) 0) 1) 256 (get_or kinds (q * 64 + c) 0 * 256 + get_or values (q * 64 + c) 0))

-- q has a next state for nonterminal 64 + b exactly where something moves
pub record GotoMeets (moves gotos : List ℕ) (q b : ℕ) : Type 0 where
  pub filled : On moves (64 + b) → On gotos (q * 64 + b)
  pub asked : On gotos (q * 64 + b) → On moves (64 + b)
