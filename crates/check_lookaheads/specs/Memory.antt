-- Lookaheads that are asked and lookaheads that stand there, in memory: flags at line * 64 + code.
use Rattle.std.specs.Prelude.{ℕ, ◌+◌, ◌*◌, ◌<◌, ◌≡◌, List, get_or}
use Rattle.fixpoint.specs.Flags.{On}
use Rattle.memory.specs.Memory.{state_at}
use Rattle.kernel_lines.specs.Lines.{IsLine}

-- each code that is asked of line l is one of its lookaheads
pub record Covers (included lookaheads : List ℕ) (l codes : ℕ) : Type 0 where
  pub covered : (c : ℕ) → c < codes → On included (l * 64 + c) → On lookaheads (l * 64 + c)

-- the same for all lines of state q
pub record StateCovers (kernels included lookaheads : List ℕ) (lines codes q : ℕ) : Type 0 where
  pub each : (l : ℕ) → l < lines → state_at kernels l ≡ q → Covers included lookaheads l codes

-- y is the flag of code 0 in a line of the goal's entry
pub record GoalAsks (kernels entries : List ℕ) (rules lines y : ℕ) : Type 0 where
  pub line : ℕ
  pub is_line : IsLine kernels lines (get_or entries 1 0) (rules + 1) 0 line
  pub is : y ≡ line * 64
