-- The sets as flags in memory: nullable symbols in a row of 128, what begins with which code in rows of 64.
use Rattle.std.specs.Prelude.{ℕ, ◌≤◌, ◌<◌, ◌≡◌, List}
use Rattle.language.specs.Grammar.{Grammar}
use Rattle.language.specs.Nullable.{Nullable}
use Rattle.items.specs.Layout.{left_at, length_at, symbol_at}
use Rattle.fixpoint.specs.Flags.{On, Marks}
use Rattle.fixpoint.specs.Least.{Clauses, Least}
use Rattle.fixpoint.specs.Rows.{cell, Row}
use Rattle.grammar_reduction.specs.Reaches.{Occurrence, rule_of, symbol_of}
use Rattle.grammar_reduction.specs.InMemory.{IsRule}
use Rattle.analysis.specs.ByRules.{BeginsByRules}

-- a place in a rule, behind symbols of N
abbrev pub starting_in : List ℕ → ℕ → (ℕ → Type 0) → Clauses Occurrence ℕ
starting_in m rules N = record {
  ok = λ c. IsRule rules (rule_of c) × (symbol_of c < length_at m (rule_of c)) × ((j : ℕ) → j < symbol_of c → N (symbol_at m (rule_of c) j));
  needs = λ c a. a ≡ symbol_at m (rule_of c) (symbol_of c);
  head = λ c. left_at m (rule_of c);
}

-- x's row has c
pub record Has (fs : List ℕ) (x c : ℕ) : Type 0 where
  pub on : On fs (cell x c)

-- c begins x by the rules in memory, from what S says
abbrev pub FirstFrom : List ℕ → ℕ → (ℕ → Type 0) → (ℕ → ℕ → Type 0) → ℕ → ℕ → Type 0
FirstFrom m rules N S x c = Least (starting_in m rules N) (λ z. S z c) x

-- the flags of row `from` put into row `to`
pub data Copied (fs : List ℕ) (from to : ℕ) : ℕ → Type 0 where
  old : {y : ℕ} → On fs y → Copied fs from to y
  copy : (c : ℕ) → c < 64 → On fs (cell from c) → Copied fs from to (cell to c)

abbrev pub Includes : ℕ → ℕ → List ℕ → Type 0
Includes from to fs = (c : ℕ) → c < 64 → On fs (cell from c) → On fs (cell to c)

-- what can begin rule i's right side begins its left side
abbrev pub RuleMet : List ℕ → (ℕ → Type 0) → ℕ → List ℕ → Type 0
RuleMet m N i fs = (k : ℕ) → k < length_at m i → ((j : ℕ) → j < k → N (symbol_at m i j)) → Includes (symbol_at m i k) (left_at m i) fs

-- terminals 1 to t begin with themselves
abbrev pub Diagonal : ℕ → ℕ → ℕ → Type 0
Diagonal t x c = (x ≡ c) × (1 ≤ c) × (c ≤ t)

-- the two tables of a grammar
pub record SetsOf (g : Grammar) (nullable first : List ℕ) : Type 0 where
  pub nullable_marks : Marks (Nullable g) nullable
  pub first_marks : Marks (Row (BeginsByRules g)) first
