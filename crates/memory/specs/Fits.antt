-- A table within the limits of a table book, with every field declared and of its kind. Document 01, 'Books'.
use Rattle.std.specs.Prelude.{ℕ, ◌≤◌, ◌≡◌, ◌⊎◌, List, length}
use Rattle.std.proofs.Math.Option.{some}
use Rattle.language.specs.Grammar.{Grammar, Rule, rule_at, IsTerminal, IsNonterminal}
use Rattle.language.specs.Sentence.{In}
use Rattle.leftcorner.specs.Table.{Table, Action, A, P, symbols_of, next_state}
use Rattle.leftcorner.specs.Construction.{EntryAt, KernelAt, ActionAt, WellFormed}

pub record Fits (g : Grammar) (t : Table) : Type 0 where
  pub form : WellFormed g t
  pub few_states : t.states ≤ 255
  pub few_entries : length t.entries ≤ 127
  pub few_kernels : length t.kernels ≤ 1023
  pub string_some : (k s : ℕ) (γ : List ℕ) → EntryAt g t k s γ → 1 ≤ length γ
  pub string_short : (k s : ℕ) (γ : List ℕ) → EntryAt g t k s γ → length γ ≤ 15
  pub string_declared : (k s : ℕ) (γ : List ℕ) → EntryAt g t k s γ → (X : ℕ) → In X γ → IsTerminal g X ⊎ IsNonterminal g X
  pub dot_within : (q i k : ℕ) (σ : List ℕ) → KernelAt g t q i k σ → k ≤ length (symbols_of g t i)
  pub code_declared : (q i k d : ℕ) (σ : List ℕ) → KernelAt g t q i k σ → In d σ → d ≤ g.terminals
  pub next_declared : (q X s : ℕ) (x : Action) → ActionAt g t q X x → next_state x ≡ some s → (1 ≤ s) × (s ≤ t.states)
  pub rule_declared : (q X i : ℕ) → ActionAt g t q X (A i) → (r : Rule) × (rule_at g i ≡ some r)
  pub announce_kind : (q X i : ℕ) → ActionAt g t q X (A i) → X ≤ g.terminals
  pub pop_kind : (q X n : ℕ) → ActionAt g t q X (P n) → X ≤ g.terminals
