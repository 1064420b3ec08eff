-- What is expanded in a state, and what moves from it, as flags.
use Rattle.std.specs.Prelude.{ℕ, ◌+◌, ◌≤◌, ◌<◌, List}
use Rattle.language.specs.Grammar.{Grammar}
use Rattle.leftcorner.specs.Table.{Table}
use Rattle.leftcorner.specs.Construction.{MovedBy}
use Rattle.fixpoint.specs.Flags.{On}
use Rattle.closure.specs.Expansion.{Expanded, HoldsClosure}

-- the flags of what is expanded in q, without lookaheads
pub record HoldsPresent (g : Grammar) (t : Table) (q : ℕ) (present : List ℕ) : Type 0 where
  pub only : (b : ℕ) → b < 64 → On present b → Expanded g t q (64 + b)
  pub every : (b : ℕ) → b < 64 → Expanded g t q (64 + b) → On present b

pub present_of : {g : Grammar} {t : Table} {F : List ℕ → ℕ → ℕ → Type 0} {q : ℕ} {present follow : List ℕ}
    → HoldsClosure g t F q present follow → HoldsPresent g t q present
present_of h = record { only = h.present_only; every = h.present_every }

-- the flags of the symbols on which something moves from q
pub record HoldsMoves (g : Grammar) (t : Table) (q : ℕ) (moves : List ℕ) : Type 0 where
  pub only : (X : ℕ) → 1 ≤ X → On moves X → (i : ℕ) × (n : ℕ) × MovedBy g t q X i n
  pub every : (X i n : ℕ) → MovedBy g t q X i n → On moves X
