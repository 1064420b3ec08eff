-- The rules' clauses as they stand in memory.
use Rattle.std.specs.Prelude.{ℕ, ◌≤◌, ◌<◌, ◌≡◌, List}
use Rattle.items.specs.Layout.{left_at, length_at, symbol_at}
use Rattle.fixpoint.specs.Flags.{On}
use Rattle.fixpoint.specs.Least.{Clauses}
use Rattle.grammar_reduction.specs.Reaches.{Occurrence, rule_of, symbol_of}

-- a is a symbol of item i
pub record SymbolIn (m : List ℕ) (i a : ℕ) : Type 0 where
  pub place : ℕ
  pub within : place < length_at m i
  pub is_it : symbol_at m i place ≡ a

abbrev pub IsRule : ℕ → ℕ → Type 0
IsRule rules i = (1 ≤ i) × (i ≤ rules)

abbrev pub productions_in : List ℕ → ℕ → Clauses ℕ ℕ
productions_in m rules = record { ok = IsRule rules; needs = SymbolIn m; head = left_at m }

-- an occurrence is a rule and a place in it
abbrev pub reaching_in : List ℕ → ℕ → Clauses Occurrence ℕ
reaching_in m rules = record {
  ok = λ c. IsRule rules (rule_of c) × (symbol_of c < length_at m (rule_of c));
  needs = λ c a. a ≡ left_at m (rule_of c);
  head = λ c. symbol_at m (rule_of c) (symbol_of c);
}

-- every symbol of item i has its flag set
abbrev pub AllOn : List ℕ → ℕ → List ℕ → Type 0
AllOn m i fs = (k : ℕ) → k < length_at m i → On fs (symbol_at m i k)

-- the codes 1 to t
abbrev pub Upto : ℕ → ℕ → Type 0
Upto t x = (1 ≤ x) × (x ≤ t)
