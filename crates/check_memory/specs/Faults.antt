-- The lowest state at which something fails, state by state, and the reply to what was found.
use Rattle.std.specs.Prelude.{ℕ, zero, suc, ◌≤◌, ◌<◌, ◌≡◌, Bool, true, false, List}
use Rattle.language.specs.Grammar.{Grammar}
use Rattle.leftcorner.specs.Table.{Table}
use Rattle.leftcorner.specs.Construction.{ItemsMeet, CellsAgree, CellsMeet}
use Rattle.reply.specs.declared.Kind.TheVariants.{ItemMismatch, MissingLookahead, Conflict, CellMismatch}
use Rattle.reply.specs.declared.Reply.{Reply}
use Rattle.reply.specs.declared.Reply.TheVariants.{Accepted}
use Rattle.check_verdict.specs.Verdict.{refused}
use Rattle.fixpoint.specs.Flags.{Decides, Marks}
use Rattle.analysis.specs.Adds.{Adds}
use Rattle.inclusions.specs.Included.{Includes, FlagAsked}
use Rattle.check_lookaheads.specs.Sources.{IncludesBelow}

-- `at` is the lowest of 1 .. n - 1 at which Φ fails, 0 where it fails at none
pub record Fault (Φ : ℕ → Type 0) (n at : ℕ) : Type 0 where
  pub low : at < n
  pub none : at ≡ 0 → (k : ℕ) → 1 ≤ k → k < n → Φ k
  pub before : (k : ℕ) → 1 ≤ k → k < at → Φ k
  pub fails : 1 ≤ at → Φ at → ⊥

-- the lowest so far, where state q is fine or not
abbrev pub noted : ℕ → Bool → ℕ → ℕ
noted zero true q = 0
noted zero false q = q
noted (suc a) b q = suc a

-- "then 7 to 10", each at its lowest state
abbrev pub answer_of : ℕ → ℕ → ℕ → ℕ → Reply
answer_of (suc a) b c d = refused ItemMismatch (suc a)
answer_of zero (suc b) c d = refused MissingLookahead (suc b)
answer_of zero zero (suc c) d = refused Conflict (suc c)
answer_of zero zero zero (suc d) = refused CellMismatch (suc d)
answer_of zero zero zero zero = Accepted 0

module _ (g : Grammar) (t : Table) (F : List ℕ → ℕ → ℕ → Type 0) (kernels : List ℕ) (lines codes : ℕ) where
  -- what is told of state q alone, and what its items ask is added to `included`; cells are told of where its items agree
  pub record StateChecked (q : ℕ) (items agree cells : Bool) (included₀ included : List ℕ) : Type 0 where
    pub items_meet : Decides (ItemsMeet g t q) items
    pub cells_agree : Decides (CellsAgree g t F q) agree
    pub cells_meet : agree ≡ true → Decides (CellsMeet g t F q) cells
    pub adds : Adds (FlagAsked (Includes g t F q) kernels lines codes) included₀ included

  -- what is told of the states 1 .. n - 1; `included` has what their items ask
  pub record Found (n items agree cells : ℕ) (included : List ℕ) : Type 0 where
    pub items_fault : Fault (ItemsMeet g t) n items
    pub agree_fault : Fault (CellsAgree g t F) n agree
    pub cells_fault : agree ≡ 0 → Fault (CellsMeet g t F) n cells
    pub asked : Marks (FlagAsked (IncludesBelow g t F n) kernels lines codes) included
