-- Nullable symbols, what begins with a code, and first(β, σ), by rules: least sets. They are what trees say (proofs/RuleSets.antt).
use Rattle.std.specs.Prelude.{ℕ, ◌<◌, ◌≡◌, ◌⊎◌, List, [], length, get_or}
use Rattle.std.proofs.Math.Option.{Option, some, none}
use Rattle.language.specs.Grammar.{Grammar, Rule, right, rule_at, IsTerminal}
use Rattle.language.specs.Nullable.{Nullable, AllIn, Starts}
use Rattle.fixpoint.specs.Least.{Clauses, Least}
use Rattle.grammar_reduction.specs.Derives.{left_of, productions}
use Rattle.grammar_reduction.specs.Reaches.{Occurrence, rule_of, symbol_of}

-- N of every symbol of α below place k
abbrev pub Below : (ℕ → Type 0) → List ℕ → ℕ → Type 0
Below N α k = (j : ℕ) → j < k → N (get_or α j 0)

abbrev pub right_of : Option Rule → List ℕ
right_of none = []
right_of (some r) = right r

abbrev pub NoSeed : ℕ → Type 0
NoSeed x = ⊥

-- place k of rule i, behind symbols of N: what begins its symbol begins the left side
abbrev pub starting : Grammar → (ℕ → Type 0) → Clauses Occurrence ℕ
starting g N = record {
  ok = λ c. (symbol_of c < length (right_of (rule_at g (rule_of c)))) × Below N (right_of (rule_at g (rule_of c))) (symbol_of c);
  needs = λ c a. a ≡ get_or (right_of (rule_at g (rule_of c))) (symbol_of c) 0;
  head = λ c. left_of (rule_at g (rule_of c));
}

module _ (g : Grammar) where
  abbrev pub NullableByRules : ℕ → Type 0
  NullableByRules = Least (productions g) NoSeed

  -- a terminal begins with itself
  abbrev pub Itself : ℕ → ℕ → Type 0
  Itself c x = (x ≡ c) × IsTerminal g c

  abbrev pub BeginsByRules : ℕ → ℕ → Type 0
  BeginsByRules X c = Least (starting g (Nullable g)) (Itself c) X

  -- first(β, {d})
  abbrev pub FirstByRules : List ℕ → ℕ → ℕ → Type 0
  FirstByRules β d c = Starts (Nullable g) (λ X. BeginsByRules X c) β ⊎ (AllIn (Nullable g) β × (c ≡ d))
