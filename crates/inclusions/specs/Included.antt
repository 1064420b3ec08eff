-- The inclusions of lookaheads by the state that they come from. Document 01, 'Construction': "with contexts at least as large", "group j's entry
-- context includes first(groups after j, σ)".
use Rattle.std.specs.Prelude.{ℕ, zero, suc, ◌+◌, ◌*◌, ◌<◌, ◌≡◌, List, ◌∷◌, ◌++◌, length}
use Rattle.std.proofs.Math.Option.{some}
use Rattle.language.specs.Grammar.{Grammar, Rule, rule_at, concat}
use Rattle.leftcorner.specs.Table.{Table, Action, next_state, Goes}
use Rattle.leftcorner.specs.Construction.{entry_item, EntryAt, ActionAt, Carries}
use Rattle.memory.specs.Memory.{state_at, item_at, dot_at}

-- a state that goes to q on X where Next X q, and whose item i with dot k has the lookahead d where Has i k d, asks of state q's item i with dot k the
-- lookahead c
pub data Included (g : Grammar) (t : Table) (F : List ℕ → ℕ → ℕ → Type 0) (Next : ℕ → ℕ → Type 0) (Has : ℕ → ℕ → ℕ → Type 0) : ℕ → ℕ → ℕ → ℕ → Type 0 where
  by_move : {q i k c X : ℕ} {β : List ℕ} → Next X q → Has i k c → Goes g t i k X β → Included g t F Next Has q i (suc k) c
  by_group : {q i c d : ℕ} (e : ℕ) {γ : List ℕ} {r : Rule} (δs εs : List (List ℕ)) → EntryAt g t e q γ → rule_at g i ≡ some r → r.groups ≡ δs ++ γ ∷ εs
      → Has i (length r.before) d → F (concat εs) d c → Included g t F Next Has q (entry_item g t e) zero c

-- p's line for X leads to q
pub record Leads (g : Grammar) (t : Table) (p X q : ℕ) : Type 0 where
  pub action : Action
  pub line : ActionAt g t p X action
  pub next : next_state action ≡ some q

-- what the items of p ask
abbrev pub Includes : (g : Grammar) (t : Table) (F : List ℕ → ℕ → ℕ → Type 0) → ℕ → ℕ → ℕ → ℕ → ℕ → Type 0
Includes g t F p = Included g t F (Leads g t p) (Carries g t F p)

-- y is the flag of a code that is asked of its line
pub record FlagAsked (Asked : ℕ → ℕ → ℕ → ℕ → Type 0) (kernels : List ℕ) (lines codes y : ℕ) : Type 0 where
  pub line : ℕ
  pub within : line < lines
  pub code : ℕ
  pub low : code < codes
  pub is : y ≡ line * 64 + code
  pub asked : Asked (state_at kernels line) (item_at kernels line) (dot_at kernels line) code
